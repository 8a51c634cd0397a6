-- A text that is written part by part.
use Rattle.std.proofs.Common.{◌≡◌, ℕ, List, [], ◌++◌, Option, Ok, Err, sym, ◌∙◌, ap, append_assoc, append-nil}
use Rattle.std.specs.Prelude.{Result}
use Rattle.cany_io.specs.declared.failed.Failed.{Failed}
use Rattle.cany_log.specs.Written.{IsWritten}
use Rattle.cany_log.proofs.PageFacts.{alone}
use Rattle.cany_log.proofs.WrittenFacts.{IsWritten-nothing, IsWritten-then, IsWritten-short}

-- Of a text the rest is still to be written.
pub record IsWrittenUpTo (text rest : List ℕ) (old new : Option (List ℕ)) (before after : ℕ) : Type 0 where
  pub done : List ℕ
  pub parts : text ≡ done ++ rest
  pub written : IsWritten done (Ok tt) old new before after

pub IsWrittenUpTo-start : (text rest : List ℕ) (old : Option (List ℕ)) (n : ℕ) → text ≡ rest → IsWrittenUpTo text rest old old n n
IsWrittenUpTo-start text rest old n is = record { done = []; parts = is; written = IsWritten-nothing old n }

-- the next part is written
pub IsWrittenUpTo-next : (text rest part rest' : List ℕ) (s0 s1 s2 : Option (List ℕ)) (n0 n1 n2 : ℕ) → IsWrittenUpTo text rest s0 s1 n0 n1 → rest ≡ part ++ rest'
    → IsWritten part (Ok tt) s1 s2 n1 n2 → IsWrittenUpTo text rest' s0 s2 n0 n2
IsWrittenUpTo-next text rest part rest' s0 s1 s2 n0 n1 n2 h split this = record {
  done = h.done ++ part;
  parts = h.parts ∙ ap (λ r. h.done ++ r) split ∙ sym (append_assoc h.done part rest');
  written = IsWritten-then h.done part (Ok tt) s0 s1 s2 n0 n1 n2 h.written this;
}

-- it is cut short
pub IsWrittenUpTo-cut : (text rest part rest' : List ℕ) (e : Failed) (s0 s1 s2 : Option (List ℕ)) (n0 n1 n2 : ℕ) → IsWrittenUpTo text rest s0 s1 n0 n1 → rest ≡ part ++ rest'
    → IsWritten part (Err e) s1 s2 n1 n2 → IsWritten text (Err e) s0 s2 n0 n2
IsWrittenUpTo-cut text rest part rest' e s0 s1 s2 n0 n1 n2 h split this =
    let whole : text ≡ h.done ++ (part ++ rest') = h.parts ∙ ap (λ r. h.done ++ r) split in
    rw whole (IsWritten-then h.done (part ++ rest') (Err e) s0 s1 s2 n0 n1 n2 h.written (IsWritten-short part rest' e s1 s2 n1 n2 this))

-- nothing is left
pub IsWrittenUpTo-all : (text rest : List ℕ) (s0 s1 : Option (List ℕ)) (n0 n1 : ℕ) → IsWrittenUpTo text rest s0 s1 n0 n1 → rest ≡ [] → IsWritten text (Ok tt) s0 s1 n0 n1
IsWrittenUpTo-all text rest s0 s1 n0 n1 h none =
    let whole : text ≡ h.done = h.parts ∙ ap (λ r. h.done ++ r) none ∙ append-nil h.done in
    rw whole h.written

-- ---- page by page

-- Of a text the rest is still to be written, and nothing of it stands on the page.
pub record IsPagedUpTo (text rest page : List ℕ) (old new : Option (List ℕ)) (before after : ℕ) : Type 0 where
  pub written : IsWrittenUpTo text rest old new before after
  pub empty : page ≡ []

pub IsPagedUpTo-start : (text rest page : List ℕ) (old : Option (List ℕ)) (n : ℕ) → text ≡ rest → page ≡ [] → IsPagedUpTo text rest page old old n n
IsPagedUpTo-start text rest page old n is empty = record { written = IsWrittenUpTo-start text rest old n is; empty = empty }

-- the next part was put on the page, which is written
pub IsPagedUpTo-next : (text rest part rest' page full page' : List ℕ) (s0 s1 s2 : Option (List ℕ)) (n0 n1 n2 : ℕ)
    → IsPagedUpTo text rest page s0 s1 n0 n1 → rest ≡ part ++ rest' → full ≡ part ++ page → IsWritten full (Ok tt) s1 s2 n1 n2 → page' ≡ []
    → IsPagedUpTo text rest' page' s0 s2 n0 n2
IsPagedUpTo-next text rest part rest' page full page' s0 s1 s2 n0 n1 n2 h split put this empty = record {
  written = IsWrittenUpTo-next text rest part rest' s0 s1 s2 n0 n1 n2 h.written split (rw (alone part page full put h.empty) at this);
  empty = empty;
}

-- the page is cut short
pub IsPagedUpTo-cut : (text rest part rest' page full : List ℕ) (r : Result (Unit {0}) Failed) (e : Failed) (s0 s1 s2 : Option (List ℕ)) (n0 n1 n2 : ℕ)
    → IsPagedUpTo text rest page s0 s1 n0 n1 → rest ≡ part ++ rest' → full ≡ part ++ page → r ≡ Err e → IsWritten full (Err e) s1 s2 n1 n2
    → IsWritten text r s0 s2 n0 n2
IsPagedUpTo-cut text rest part rest' page full r e s0 s1 s2 n0 n1 n2 h split put failed this =
    rw failed (IsWrittenUpTo-cut text rest part rest' e s0 s1 s2 n0 n1 n2 h.written split (rw (alone part page full put h.empty) at this))

-- nothing is left
pub IsPagedUpTo-all : (text rest page : List ℕ) (s0 s1 : Option (List ℕ)) (n0 n1 : ℕ) → IsPagedUpTo text rest page s0 s1 n0 n1 → rest ≡ []
    → IsWritten text (Ok tt) s0 s1 n0 n1
IsPagedUpTo-all text rest page s0 s1 n0 n1 h none = IsWrittenUpTo-all text rest s0 s1 n0 n1 h.written none
