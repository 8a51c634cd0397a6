-- The order in which TOTCAN delivers: what is done, by the recursion by which it is usually said.
use Rattle.std.proofs.Common.{◌≡◌, ℕ, zero, suc, ◌+◌, ◌&&◌, ◌||◌, ◌↔◌, inl, inr, Bool, true, false, not, nat_le, nat_lt, if◌then◌else◌, List, [], ◌∷◌, drop, Option, Some, None, refl, ap, sym, ◌∙◌, subst, arith}
use Rattle.std.proofs.Math.Bool.{and_assoc}
use Rattle.std.proofs.lemmas.Bool.{and_from, and_parts, cases_lt, cond_both, le-leb, le-ltb, lt-leb, lt-ltb, not-true, not_from_false}
use Rattle.cany_base.specs.declared.message.MsgKey.{MsgKey}
use Rattle.cany_base.specs.declared.notice.NoticeKind.{NoticeKind}
use Rattle.cany_base.specs.Frame.{FrameParts}
use Rattle.cany_base.specs.Params.{Parameters}
use Rattle.cany_model.specs.Rules.Totcan.{done, done_at, done_from, holds, is_accepted, is_clear, is_pending, is_place, is_recent, message_in, tot_in}
use Rattle.cany_model.proofs.Among.{Among, Among-append_cases, Among-append_left, Among-append_right}
use Rattle.cany_model.proofs.Rules.Services.PlaceFacts.{Place, holds-place, place-old, tot_in-holds}
use Rattle.cany_model.proofs.Rules.Services.TotcanFacts.{drop-next}

-- ---- the recursion

-- a message is done if it is accepted and each with an older place is through
abbrev pub is_done : Parameters → ℕ → List NoticeKind → Bool → MsgKey → Bool
is_done p i past older_through key = is_accepted p.bound i key past && older_through

-- it is through, where its place has this age, if it is done, or closed and not accepted
abbrev pub is_through : Parameters → ℕ → List NoticeKind → ℕ → Bool → MsgKey → Bool
is_through p i past age older_through key =
    is_done p i past older_through key || nat_le p.bound age && not (is_accepted p.bound i key past)

-- whether the message of this data frame, which came in a notice of this age, is through if this is
-- its place
abbrev pub is_through_at : Parameters → ℕ → List NoticeKind → ℕ → Bool → Option FrameParts → Bool
is_through_at p i past age older_through None = true
is_through_at p i past age older_through (Some f) = not (is_place age past (message_in f)) || is_through p i past age older_through (message_in f)

-- whether each message is through whose place is one of these notices, the first of which has this
-- age
unfoldable pub are_through : Parameters → ℕ → List NoticeKind → ℕ → List NoticeKind → Bool
are_through p i past age [] = true
are_through p i past age (notice ∷ older) =
    is_through_at p i past age (are_through p i past (age + 1) older) (tot_in notice) && are_through p i past (age + 1) older

-- ---- none is pending exactly where all are through

closed_is : (bound age : ℕ) → nat_le bound age ≡ not (nat_lt age bound)
closed_is bound age = elim (cases_lt age bound) [
  | inl young ↦ rw (lt-ltb age bound young) (lt-leb bound age young)
  | inr old ↦ rw (le-ltb age bound old) (le-leb bound age old)
]

pending_or_through : (place accepted young clear : Bool)
    → ((not place || (accepted && clear || not young && not accepted)) && clear) ≡ (not (place && young && not accepted) && clear)
pending_or_through false accepted young clear = refl
pending_or_through true true true true = refl
pending_or_through true true true false = refl
pending_or_through true true false true = refl
pending_or_through true true false false = refl
pending_or_through true false true clear = refl
pending_or_through true false false clear = refl

through_at : (p : Parameters) (i : ℕ) (past : List NoticeKind) (age : ℕ) (clear : Bool) (o : Option FrameParts)
    → (is_through_at p i past age clear o && clear) ≡ (not (is_pending p i past age o) && clear)
through_at p i past age clear None = refl
through_at p i past age clear (Some f) =
    rw (closed_is p.bound age)
    (pending_or_through (is_place age past (message_in f)) (is_accepted p.bound i (message_in f) past) (nat_lt age p.bound) clear)

pub through_is_clear : (p : Parameters) (i : ℕ) (past : List NoticeKind) (age : ℕ) (notices : List NoticeKind)
    → are_through p i past age notices ≡ is_clear p i past age notices
unfolding are_through is_clear
through_is_clear p i past age [] = refl
through_is_clear p i past age (e ∷ older) =
    ap (λ clear. is_through_at p i past age clear (tot_in e) && clear) (through_is_clear p i past (age + 1) older)
    ∙ through_at p i past age (is_clear p i past (age + 1) older) (tot_in e)

-- at its place a message is done by the recursion
pub done_at_is : (p : Parameters) (i : ℕ) (past : List NoticeKind) (age : ℕ) (older : List NoticeKind) (f : FrameParts)
    → done_at p i past age older (Some f)
    ≡ (if is_place age past (message_in f) && is_done p i past (are_through p i past (age + 1) older) (message_in f) then f ∷ [] else [])
done_at_is p i past age older f =
    ap (λ b. if b then f ∷ [] else [])
    (and_assoc (is_place age past (message_in f)) (is_accepted p.bound i (message_in f) past) (is_clear p i past (age + 1) older)
    ∙ ap (λ clear. is_place age past (message_in f) && (is_accepted p.bound i (message_in f) past && clear)) (sym (through_is_clear p i past (age + 1) older)))

-- ---- a message with a place

abbrev pub IsNamed : MsgKey → FrameParts → Type 0
IsNamed key f = message_in f ≡ key

-- the message with this place is done
abbrev pub IsDone : Parameters → ℕ → (key : MsgKey) (past : List NoticeKind) → Place key past → Type 0
IsDone p i key past w = is_done p i past (are_through p i past (w.age + 1) w.older) key ≡ true

-- it stands among those that are done
done_here : (p : Parameters) (i : ℕ) (key : MsgKey) (past : List NoticeKind) (w : Place key past) → IsDone p i key past w
    → Among (IsNamed key) (done_at p i past w.age w.older (tot_in w.notice))
done_here p i key past w h =
    let b = holds-place key w.notice w.is in
    let place : is_place w.age past (message_in b.frame) ≡ true = rw b.names (not_from_false (is_recent w.age key past) w.newest) in
    let is : is_done p i past (are_through p i past (w.age + 1) w.older) (message_in b.frame) ≡ true = rw b.names h in
    rw (
      b.brought,
      done_at_is p i past w.age w.older b.frame,
      and_from (is_place w.age past (message_in b.frame)) (is_done p i past (are_through p i past (w.age + 1) w.older) (message_in b.frame)) place is,
    )
    (inl b.names)

done_deeper : (p : Parameters) (i : ℕ) (past : List NoticeKind) (P : FrameParts → Type 0) (n first age : ℕ) → age ≡ first + n
    → (notices : List NoticeKind) (e : NoticeKind) (older : List NoticeKind) → drop n notices ≡ e ∷ older
    → Among P (done_at p i past age older (tot_in e)) → Among P (done_from p i past first notices)
unfolding done_from
done_deeper p i past P zero first age at [] e older is h = absurd (cc)
done_deeper p i past P zero first age at (k ∷ rest) e older is h =
    let same : e ≡ k = cc in
    let tail : older ≡ rest = cc in
    let here : age ≡ first = omega (arith, at) in
    Among-append_right P (done_from p i past (first + 1) rest) (done_at p i past first rest (tot_in k))
    (subst (λ a. Among P (done_at p i past a rest (tot_in k))) here
    (subst (λ r. Among P (done_at p i past age r (tot_in k))) tail (subst (λ n. Among P (done_at p i past age older (tot_in n))) same h)))
done_deeper p i past P (suc n) first age at [] e older is h = absurd (cc)
done_deeper p i past P (suc n) first age at (k ∷ rest) e older is h =
    Among-append_left P (done_from p i past (first + 1) rest) (done_at p i past first rest (tot_in k))
    (done_deeper p i past P n (first + 1) age (omega (arith, at)) rest e older is h)

-- each that is done has a place, and is done by the recursion
pub record DoneWith (p : Parameters) (i : ℕ) (key : MsgKey) (past : List NoticeKind) : Type 0 where
  pub place : Place key past
  pub is : IsDone p i key past place

done_there : (p : Parameters) (i : ℕ) (key : MsgKey) (past : List NoticeKind) (age : ℕ) (e : NoticeKind) (older : List NoticeKind) → drop age past ≡ e ∷ older
    → (o : Option FrameParts) → tot_in e ≡ o → Among (IsNamed key) (done_at p i past age older o) → DoneWith p i key past
done_there p i key past age e older at None brought h = absurd h
done_there p i key past age e older at (Some f) brought h =
    let w = of_done (rw (done_at_is p i past age older f) at h) in
    record {
      place = record {
        age = age;
        notice = e;
        older = older;
        at = at;
        is = ap (λ k. holds k e) (sym w.0) ∙ tot_in-holds e f brought;
        newest = ap (λ k. is_recent age k past) (sym w.0) ∙ not-true (is_recent age (message_in f) past) w.1;
      };
      is = ap (λ k. is_done p i past (are_through p i past (age + 1) older) k) (sym w.0) ∙ w.2;
    }
  where
    of_done : Among (IsNamed key)
        (if is_place age past (message_in f) && is_done p i past (are_through p i past (age + 1) older) (message_in f) then f ∷ [] else [])
        → (message_in f ≡ key) × (is_place age past (message_in f) ≡ true)
        × (is_done p i past (are_through p i past (age + 1) older) (message_in f) ≡ true)
    of_done h =
        cond_both (is_place age past (message_in f) && is_done p i past (are_through p i past (age + 1) older) (message_in f)) (f ∷ []) []
        (λ frames. Among (IsNamed key) frames → (message_in f ≡ key) × (is_place age past (message_in f) ≡ true)
        × (is_done p i past (are_through p i past (age + 1) older) (message_in f) ≡ true))
        (λ is a.
        let parts = and_parts (is_place age past (message_in f)) (is_done p i past (are_through p i past (age + 1) older) (message_in f)) is in
        elim a [ inl named ↦ (named, parts.0, parts.1) | inr none ↦ absurd none ])
        (λ _ none. absurd none)
        h

done_of : (p : Parameters) (i : ℕ) (key : MsgKey) (past : List NoticeKind) (age : ℕ) (notices : List NoticeKind) → drop age past ≡ notices
    → Among (IsNamed key) (done_from p i past age notices) → DoneWith p i key past
unfolding done_from
done_of p i key past age [] at h = absurd h
done_of p i key past age (e ∷ older) at h =
    elim (Among-append_cases (IsNamed key) (done_from p i past (age + 1) older) (done_at p i past age older (tot_in e)) h) [
      | inl later ↦ done_of p i key past (age + 1) older (drop-next past age e older at) later
      | inr here ↦ done_there p i key past age e older at (tot_in e) refl here
    ]

pub done-with : (p : Parameters) (i : ℕ) (key : MsgKey) (past : List NoticeKind) → Among (IsNamed key) (done p i past) → DoneWith p i key past
done-with p i key past h = done_of p i key past 0 past refl h

-- a message has one place
same_age : (key : MsgKey) (past : List NoticeKind) (a b : Place key past) → a.age ≡ b.age
same_age key past a b = omega (arith, place-old a.age key past a.newest b, place-old b.age key past b.newest a)

same_older : (key : MsgKey) (past : List NoticeKind) (a b : Place key past) → a.older ≡ b.older
same_older key past a b =
    let both : (a.notice ∷ a.older) ≡ (b.notice ∷ b.older) = sym a.at ∙ ap (λ n. drop n past) (same_age key past a b) ∙ b.at in cc

-- a message stands among those that are done exactly where, at its place, it is done by the
-- recursion
pub done_exactly : (p : Parameters) (i : ℕ) (key : MsgKey) (past : List NoticeKind) (w : Place key past)
    → Among (IsNamed key) (done p i past) ↔ IsDone p i key past w
done_exactly p i key past w = (
  λ h.
      let d = done-with p i key past h in
      subst (λ older. is_done p i past (are_through p i past (w.age + 1) older) key ≡ true) (same_older key past d.place w)
      (subst (λ age. is_done p i past (are_through p i past (age + 1) d.place.older) key ≡ true) (same_age key past d.place w) d.is),
  λ h. done_deeper p i past (IsNamed key) w.age 0 w.age (omega arith) past w.notice w.older w.at (done_here p i key past w h),
)
