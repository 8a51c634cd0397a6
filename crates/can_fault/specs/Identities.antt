-- The names of frames and of attempts, as keys.
use Rattle.std.specs.Prelude.{ℕ}
use Rattle.std.specs.declared.cmp.Ordering.{Ordering}
use Rattle.can_fault.specs.declared.identity.FrameIdentity.{FrameIdentity}
use Rattle.can_fault.specs.declared.identity.Attempt.{Attempt}
use Rattle.can_fault.specs.contracts.identity.FrameIdentityOrd.TheImpl as identity_ord
use Rattle.can_fault.specs.contracts.identity.AttemptOrd.TheImpl as attempt_ord
use Rattle.cany_model.specs.Bus.Frames.{Identity}

-- the order of names
abbrev pub identity_cmp : FrameIdentity → FrameIdentity → Ordering
identity_cmp = (identity_ord.ghosts).cmp

-- the order of attempts
abbrev pub attempt_cmp : Attempt → Attempt → Ordering
attempt_cmp = (attempt_ord.ghosts).cmp

abbrev pub frame_identity : Identity → FrameIdentity
frame_identity x = record { class = x.class; number = x.number; node = x.node }

-- what the key of an identity stands for
abbrev pub named_identity : FrameIdentity → Identity
named_identity key = record { class = key.class; number = key.number; node = key.node }

abbrev pub attempt_of : Identity → ℕ → Attempt
attempt_of x nth = record { identity = frame_identity x; nth = nth }
