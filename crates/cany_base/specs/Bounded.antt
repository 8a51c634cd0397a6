-- What a contract sees of a list with a fixed room.
use Rattle.std.specs.Prelude.{ℕ, List, refl}
use Rattle.std.specs.Coded.{Coded, code_by, coded×, coded_ℕ, coded_list}

pub record Bounded (T : Type 0) : Type 0 where
  pub items : List T
  pub room : ℕ

-- stored as the pair of its fields
abbrev pub bounded_code : {T : Type 0} → Coded T → Coded (Bounded T)
bounded_code {T} code =
    code_by (List T × ℕ) (coded× (coded_list code) coded_ℕ) (λ b. (b.items, b.room)) (λ p. record { items = p.0; room = p.1 }) (λ _. refl)
