-- Which messages a node knows to be accepted, after one notice more, and by what it has counted.
use Rattle.std.proofs.Common.{◌≡◌, ℕ, zero, suc, ◌+◌, ◌==◌, ◌&&◌, ◌||◌, inl, inr, Bool, true, false, List, [], ◌∷◌, length, refl, ap, sym, ◌∙◌, arith}
use Rattle.std.specs.Prelude.{nat_lt}
use Rattle.std.proofs.Math.Bool.{or-false}
use Rattle.std.proofs.lemmas.Bool.{and_from, and_parts, and_right, cases_Bool, false≢true, or_cases, or_left, or_parts, or_right}
use Rattle.cany_base.specs.declared.message.MsgKey.{MsgKey}
use Rattle.cany_base.specs.declared.notice.NoticeKind.{NoticeKind}
use Rattle.cany_message.proofs.HistoryFacts.{has_copy-counted, has_own-more}
use Rattle.cany_model.specs.Bus.History.{copies, has_own, is_got, is_sent}
use Rattle.cany_model.specs.Rules.Messages.{accept_of_key}
use Rattle.cany_model.specs.Rules.Relcan.{has_copy}
use Rattle.cany_model.specs.Rules.Totcan.{after_place, holds, is_accepted, is_heard, can_be_accepted, is_recent, tot_of_key}
use Rattle.cany_totcan.proofs.PlaceFacts.{recent_more, recent_weaker, recent_whole}

-- ---- the notices after the place

pub after_held : (key : MsgKey) (notice : NoticeKind) (before : List NoticeKind) → holds key notice ≡ true → after_place key (notice ∷ before) ≡ []
unfolding after_place
after_held key notice before held = rw held refl

pub after_other : (key : MsgKey) (notice : NoticeKind) (before : List NoticeKind) → holds key notice ≡ false
    → after_place key (notice ∷ before) ≡ notice ∷ after_place key before
unfolding after_place
after_other key notice before other = rw other refl

-- ---- one notice more

or_last : (heard got own : Bool) → ((heard || got) || own) ≡ ((heard || own) || got)
or_last true got own = refl
or_last false true true = refl
or_last false true false = refl
or_last false false own = sym (or-false own)

module _ (bound i : ℕ) (key : MsgKey) (notice : NoticeKind) (before : List NoticeKind) where
  heard_held : holds key notice ≡ true → is_heard bound key (notice ∷ before) ≡ false
  unfolding is_heard
  heard_held held = rw held refl

  heard_more : holds key notice ≡ false
      → is_heard bound key (notice ∷ before) ≡ (is_heard bound key before || is_got (accept_of_key key) notice && can_be_accepted bound key before)
  unfolding is_heard
  heard_more other = rw other refl

  own_more : holds key notice ≡ false → has_own (tot_of_key key) (notice ∷ before) ≡ has_own (tot_of_key key) before
  own_more other =
      has_own-more (tot_of_key key) notice before
      ∙ ap (λ b. b || has_own (tot_of_key key) before) (or_parts (is_got (tot_of_key key) notice) (is_sent (tot_of_key key) notice) other).1

  -- a place that moves takes the acceptances back
  pub accepted_held : holds key notice ≡ true → is_accepted bound i key (notice ∷ before) ≡ (key.origin == i && has_own (tot_of_key key) (notice ∷ before))
  unfolding is_accepted
  accepted_held held = ap (λ b. b || key.origin == i && has_own (tot_of_key key) (notice ∷ before)) (heard_held held)

  pub accepted_more : holds key notice ≡ false
      → is_accepted bound i key (notice ∷ before) ≡ (is_accepted bound i key before || is_got (accept_of_key key) notice && can_be_accepted bound key before)
  unfolding is_accepted
  accepted_more other =
      ap (λ b. b || key.origin == i && has_own (tot_of_key key) (notice ∷ before)) (heard_more other)
      ∙ ap (λ b. (is_heard bound key before || is_got (accept_of_key key) notice && can_be_accepted bound key before) || key.origin == i && b) (own_more other)
      ∙ or_last (is_heard bound key before) (is_got (accept_of_key key) notice && can_be_accepted bound key before) (key.origin == i && has_own (tot_of_key key) before)

  pub accepted_heard : holds key notice ≡ false → is_got (accept_of_key key) notice ≡ true → can_be_accepted bound key before ≡ true
      → is_accepted bound i key (notice ∷ before) ≡ true
  accepted_heard other got in_time =
      accepted_more other
      ∙ or_right (is_accepted bound i key before) (is_got (accept_of_key key) notice && can_be_accepted bound key before)
      (and_from (is_got (accept_of_key key) notice) (can_be_accepted bound key before) got in_time)

  pub accepted_same : holds key notice ≡ false → (is_got (accept_of_key key) notice && can_be_accepted bound key before) ≡ false
      → is_accepted bound i key (notice ∷ before) ≡ is_accepted bound i key before
  accepted_same other none = accepted_more other ∙ ap (λ b. is_accepted bound i key before || b) none ∙ or-false (is_accepted bound i key before)

  -- an accepted message stays so unless its place moves
  pub accepted_stays : holds key notice ≡ false → is_accepted bound i key before ≡ true → is_accepted bound i key (notice ∷ before) ≡ true
  accepted_stays other accepted =
      accepted_more other ∙ or_left (is_accepted bound i key before) (is_got (accept_of_key key) notice && can_be_accepted bound key before) accepted

  -- and one that was closed has become accepted by no notice
  pub accepted_before : holds key notice ≡ false → can_be_accepted bound key before ≡ false → is_accepted bound i key (notice ∷ before) ≡ is_accepted bound i key before
  accepted_before other closed = accepted_same other (and_right (is_got (accept_of_key key) notice) (can_be_accepted bound key before) closed)

-- ---- by what was counted since the place

recent_empty : (n : ℕ) (key : MsgKey) → is_recent n key [] ≡ false
unfolding is_recent
recent_empty zero key = refl
recent_empty (suc n) key = refl

-- so long as the place is among these notices each frame that accepts the message was in time
heard_copied : (bound : ℕ) (key : MsgKey) (past : List NoticeKind) → is_recent (bound + 1) key past ≡ true
    → is_heard bound key past ≡ has_copy (accept_of_key key) (after_place key past)
heard_copied bound key [] recent = absurd (false≢true (sym (recent_empty (bound + 1) key) ∙ recent))
heard_copied bound key (notice ∷ before) recent = elim (cases_Bool (holds key notice)) [
  | inl held ↦ heard_held bound 0 key notice before held ∙ sym (ap (has_copy (accept_of_key key)) (after_held key notice before held))
  | inr other ↦
      let open_before : is_recent bound key before ≡ true =
      sym (recent_more bound key notice before ∙ ap (λ b. b || is_recent bound key before) other) ∙ recent in
      heard_more bound 0 key notice before other
      ∙ ap (λ b. is_heard bound key before || is_got (accept_of_key key) notice && b) open_before
      ∙ ap (λ b. b || is_got (accept_of_key key) notice && true)
      (heard_copied bound key before (recent_weaker bound (bound + 1) key before (omega arith) open_before))
      ∙ one_more (has_copy (accept_of_key key) (after_place key before)) (is_got (accept_of_key key) notice)
      ∙ sym (ap (has_copy (accept_of_key key)) (after_other key notice before other))
]
  where
    one_more : (a b : Bool) → (a || b && true) ≡ (b || a)
    one_more true true = refl
    one_more true false = refl
    one_more false true = refl
    one_more false false = refl

pub heard_counted : (bound : ℕ) (key : MsgKey) (past : List NoticeKind) → is_recent (bound + 1) key past ≡ true
    → is_heard bound key past ≡ nat_lt 0 (copies (accept_of_key key) (after_place key past))
heard_counted bound key past recent = heard_copied bound key past recent ∙ has_copy-counted (accept_of_key key) (after_place key past)

pub accepted_counted : (bound i : ℕ) (key : MsgKey) (past : List NoticeKind) → is_recent (bound + 1) key past ≡ true
    → is_accepted bound i key past ≡ (nat_lt 0 (copies (accept_of_key key) (after_place key past)) || key.origin == i && has_own (tot_of_key key) past)
unfolding is_accepted
accepted_counted bound i key past recent = ap (λ b. b || key.origin == i && has_own (tot_of_key key) past) (heard_counted bound key past recent)

-- ---- an accepted message has a place

pub accepted_placed : (bound i : ℕ) (key : MsgKey) (past : List NoticeKind) → is_accepted bound i key past ≡ true → is_recent (length past) key past ≡ true
unfolding is_accepted is_heard is_recent has_own
accepted_placed bound i key [] accepted = absurd (false≢true (and_parts (key.origin == i) false accepted).1)
accepted_placed bound i key (notice ∷ before) accepted = elim (cases_Bool (holds key notice)) [
  | inl held ↦ or_left (holds key notice) (is_recent (length before) key before) held
  | inr other ↦
      or_right (holds key notice) (is_recent (length before) key before)
      (elim (or_cases (is_accepted bound i key before) (is_got (accept_of_key key) notice && can_be_accepted bound key before)
      (sym (accepted_more bound i key notice before other) ∙ accepted)) [
        | inl was ↦ accepted_placed bound i key before was
        | inr heard ↦ recent_whole bound key before (and_parts (is_got (accept_of_key key) notice) (can_be_accepted bound key before) heard).1
      ])
]
