-- What is made slot by slot is the greatest slot of its kind, or that something holds since some
-- slot.
use Rattle.std.proofs.Common.{◌≡◌, ℕ, suc, ◌-◌, ◌<◌, ◌≤◌, ◌⊎◌, ◌↔◌, ◌&&◌, ◌||◌, inl, inr, Bool, true, false, not, if◌then◌else◌, List, [], ◌∷◌, drop, length, refl, ap, sym, ◌∙◌, subst, arith}
use Rattle.std.proofs.lemmas.Bool.{and_from, and_parts, both_ways, cases_Bool, cases_eq, cases_lt, cond-false, cond-true, false≢true, not-true, not_from_false, or_cases, or_left, or_right}
use Rattle.cany_base.specs.declared.notice.NoticeKind.{NoticeKind}
use Rattle.cany_knowledge.specs.ClosedForms.{HoldsIn, HoldsSince, IsGreatest, up_to}

pub up_to_newest : (e : NoticeKind) (past : List NoticeKind) → up_to (length past) (e ∷ past) ≡ e ∷ past
up_to_newest e past =
    let none : length (e ∷ past) - suc (length past) ≡ 0 = omega arith in
    ap (λ n. drop n (e ∷ past)) none

pub up_to_older : (e : NoticeKind) (past : List NoticeKind) (slot : ℕ) → slot < length past → up_to slot (e ∷ past) ≡ up_to slot past
up_to_older e past slot older =
    let more : length (e ∷ past) - suc slot ≡ suc (length past - suc slot) = omega (arith, older) in
    ap (λ n. drop n (e ∷ past)) more

module _ (test : List NoticeKind → Bool) where
  holds_newest : (e : NoticeKind) (past : List NoticeKind) → test (e ∷ past) ≡ true → HoldsIn test (e ∷ past) (length past)
  holds_newest e past h = record { read = omega arith; holds = ap test (up_to_newest e past) ∙ h }

  holds_later : (e : NoticeKind) (past : List NoticeKind) (slot : ℕ) → HoldsIn test past slot → HoldsIn test (e ∷ past) slot
  holds_later e past slot h =
      let read = h.read in record { read = omega (arith, read); holds = ap test (up_to_older e past slot read) ∙ h.holds }

  holds_cases : (e : NoticeKind) (past : List NoticeKind) (slot : ℕ) → HoldsIn test (e ∷ past) slot
      → ((slot ≡ length past) × (test (e ∷ past) ≡ true)) ⊎ HoldsIn test past slot
  holds_cases e past slot h = elim (cases_lt slot (length past)) [
    | inl older ↦ inr (record { read = older; holds = ap test (sym (up_to_older e past slot older)) ∙ h.holds })
    | inr newest ↦
        let read = h.read in
        let same : slot ≡ length past = omega (arith, newest, read) in
        inl (same, ap test (sym (up_to_newest e past)) ∙ ap (λ n. test (up_to n (e ∷ past))) (sym same) ∙ h.holds)
  ]

  -- a slot that is kept until the test holds in a later one
  pub greatest : (n : List NoticeKind → ℕ) → n [] ≡ 0
      → ((e : NoticeKind) (past : List NoticeKind) → n (e ∷ past) ≡ (if test (e ∷ past) then length past else n past))
      → (past : List NoticeKind) → IsGreatest test past (n past)
  greatest n first next [] = record { one = inl first; most = λ slot h. let read = h.read in absurd (omega (arith, read)) }
  greatest n first next (e ∷ past) = elim (cases_Bool (test (e ∷ past))) [
    | inl holds ↦
        subst (IsGreatest test (e ∷ past)) (sym (next e past ∙ cond-true (test (e ∷ past)) (length past) (n past) holds))
        (record { one = inr (holds_newest e past holds); most = λ slot h. let read = h.read in omega (arith, read) })
    | inr fails ↦
        let old = greatest n first next past in
        subst (IsGreatest test (e ∷ past)) (sym (next e past ∙ cond-false (test (e ∷ past)) (length past) (n past) fails))
        (record {
          one = elim old.one [ inl none ↦ inl none | inr h ↦ inr (holds_later e past (n past) h) ];
          most = λ slot h. elim (holds_cases e past slot h) [
            | inl now ↦ absurd (both_ways (test (e ∷ past)) fails now.1)
            | inr before ↦ old.most slot before
          ];
        })
  ]

  -- what begins where the test holds, and ends where the other one does
  module _ (stop f : List NoticeKind → Bool)
      (next : (e : NoticeKind) (past : List NoticeKind) → f (e ∷ past) ≡ (not (stop (e ∷ past)) && (test (e ∷ past) || f past)))
      (e : NoticeKind) (past : List NoticeKind) (old : (f past ≡ true) ↔ HoldsSince test stop past)
    where
      at_newest : (later : ℕ) → length past ≤ later → later < length (e ∷ past) → stop (e ∷ past) ≡ false → stop (up_to later (e ∷ past)) ≡ false
      at_newest later from to none =
          let same : later ≡ length past = omega (arith, from, to) in
          ap (λ n. stop (up_to n (e ∷ past))) same ∙ ap stop (up_to_newest e past) ∙ none

      forth : f (e ∷ past) ≡ true → HoldsSince test stop (e ∷ past)
      forth h =
          let parts = and_parts (not (stop (e ∷ past))) (test (e ∷ past) || f past) (sym (next e past) ∙ h) in
          let none : stop (e ∷ past) ≡ false = not-true (stop (e ∷ past)) parts.0 in
          elim (or_cases (test (e ∷ past)) (f past) parts.1) [
            | inl now ↦ record { slot = length past; holds = holds_newest e past now; since = λ later from to. at_newest later from to none }
            | inr before ↦
                let w = old.0 before in
                record {
                  slot = w.slot;
                  holds = holds_later e past w.slot w.holds;
                  since = λ later from to. elim (cases_lt later (length past)) [
                    | inl less ↦ ap stop (up_to_older e past later less) ∙ w.since later from less
                    | inr newest ↦ at_newest later newest to none
                  ];
                }
          ]

      back : HoldsSince test stop (e ∷ past) → f (e ∷ past) ≡ true
      back w =
          let read = w.holds.read in
          let none : stop (e ∷ past) ≡ false =
          ap stop (sym (up_to_newest e past)) ∙ w.since (length past) (omega (arith, read)) (omega arith) in
          next e past
          ∙ and_from (not (stop (e ∷ past))) (test (e ∷ past) || f past) (not_from_false (stop (e ∷ past)) none)
          (elim (holds_cases e past w.slot w.holds) [
            | inl now ↦ or_left (test (e ∷ past)) (f past) now.1
            | inr before ↦ or_right (test (e ∷ past)) (f past) (old.1 (record {
              slot = w.slot;
              holds = before;
              since = λ later from to. ap stop (sym (up_to_older e past later to)) ∙ w.since later from (omega (arith, to));
            }))
          ])

      since_next : (f (e ∷ past) ≡ true) ↔ HoldsSince test stop (e ∷ past)
      since_next = (forth, back)

  pub since : (stop : List NoticeKind → Bool) (f : List NoticeKind → Bool) → f [] ≡ false
      → ((e : NoticeKind) (past : List NoticeKind) → f (e ∷ past) ≡ (not (stop (e ∷ past)) && (test (e ∷ past) || f past)))
      → (past : List NoticeKind) → (f past ≡ true) ↔ HoldsSince test stop past
  since stop f first next [] =
      (λ h. absurd (both_ways (f []) first h), λ w. let read = w.holds.read in absurd (omega (arith, read)))
  since stop f first next (e ∷ past) = since_next stop f next e past (since stop f first next past)
