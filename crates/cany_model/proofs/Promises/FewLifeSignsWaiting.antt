-- The life signs that wait at a node, as a slot and a turn change them: one that is sent is taken
-- away, and one at most is asked for, which takes the place of one of its number.
use Rattle.std.proofs.Common.{◌≡◌, ℕ, suc, ◌≤◌, ◌⊎◌, inl, inr, true, false, not, List, [], ◌∷◌, ◌++◌, length, count_by, refl, ap, sym, ◌∙◌, arith}
use Rattle.std.specs.List.{AllByRecursion}
use Rattle.std.proofs.lemmas.Bool.{both_ways, cases_Bool, cond_both, cond-false, cond-true, false≢true, not-true}
use Rattle.std.proofs.lemmas.Bool.Decides.{nat_tests}
use Rattle.cany_base.specs.declared.class.Class.{Class}
use Rattle.cany_base.specs.declared.class.Class.TheVariants as class
use Rattle.cany_base.specs.declared.notice.NoticeKind.{NoticeKind}
use Rattle.cany_base.specs.Frame.{FrameParts}
use Rattle.cany_base.specs.Scenario.{ScenarioParts}
use Rattle.cany_model.specs.Bus.Frames.{Identity, identity_of, is_before, is_of, same_class}
use Rattle.cany_model.specs.Bus.Waiting.{waits, with_frame, without}
use Rattle.cany_model.specs.Rules.Effect.{Effect, Ask, Withdraw, Enter, waiting_after}
use Rattle.cany_model.specs.Rules.Life.{els_frame, is_due, life_effects, life_signs, life_signs_sent}
use Rattle.cany_model.specs.Rules.Protocol.{Protocol}
use Rattle.cany_model.specs.Rules.KnowledgeOf.{knowledge_of}
use Rattle.cany_model.specs.Rules.Turn.{turn_effects}
use Rattle.cany_model.proofs.Among.{Among, Each-weaker, count-no, one_if}
use Rattle.cany_model.proofs.Bus.Identities.{same_class-true, same_class_self, same_identity-from}
use Rattle.cany_model.proofs.Rules.Waits.{Asks, AsksOnly, Withdraws, Each-after, waits-kept, waits-without, waits_after}
use Rattle.cany_model.proofs.Promises.FewLifeSignsOrder.{NoneBefore}
use Rattle.cany_model.proofs.Promises.SignCounts.{asks_more, els_asks, els_test, is_els, put_one, turn_asks, waiting_few, without_fewer, without_one}
use Rattle.cany_model.proofs.Rules.Site.LifeCounts.{due_in}
use Rattle.cany_model.proofs.Rules.ProtocolFacts.{IsFounded, MayAsk, MayWithdraw, accepts, answered, closes, confirms, data_is_no_other, enough, enough_accept, exchanges, is_diffused, is_relayed, lives, originates, relays, request_class, requests, settles, signals}
use Rattle.cany_model.proofs.Rules.Protocols.{life_is_one}
use Rattle.cany_model.proofs.Rules.TurnFacts.{turn_effect, turn_has, turn_only}

-- the life sign of this number of node i
abbrev pub own_sign : ℕ → ℕ → Identity
own_sign i number = record { class = class.Els; number = number; node = i }

-- of node i, where it is a life sign, and of no greater number than this
abbrev pub IsOwnSign : ℕ → ℕ → FrameParts → Type 0
IsOwnSign i number f = is_els f ≡ true → (f.node ≡ i) × (f.number ≤ number)

pub own_signs_later : (i a b : ℕ) → a ≤ b → (w : List FrameParts) → AllByRecursion (IsOwnSign i a) w → AllByRecursion (IsOwnSign i b) w
own_signs_later i a b l w h =
    Each-weaker (IsOwnSign i a) (IsOwnSign i b) (λ f k els. let own = k els in (own.0, omega (arith, own.1, l))) w h

-- ---- a slot

-- where no other is a life sign, none is left
none_left : (x : Identity) (w : List FrameParts) → AllByRecursion (λ g. is_els g ≡ true → x ≡ identity_of g) w → count_by is_els (without x w) ≡ 0
none_left x [] h = refl
none_left x (g ∷ w) h =
    cond_both (not (is_of x g)) (g ∷ without x w) (without x w) (λ v. count_by is_els v ≡ 0)
    (λ kept. elim (cases_Bool (is_els g)) [
      | inl els ↦ absurd (both_ways (is_of x g) (not-true (is_of x g) kept) (same_identity-from x (identity_of g) (h.0 els)))
      | inr other ↦ count-no is_els g (without x w) other ∙ none_left x w h.1
    ])
    (λ _. none_left x w h.1)

not_lower : (f g : FrameParts) → is_els f ≡ true → is_els g ≡ true → is_before g f ≡ false → f.number ≤ g.number
unfolding is_before same_class
not_lower f g one other h = grind (arith, nat_tests)

-- The sign of the greatest number is sent only where it is the last, since those of lower numbers
-- go first.
pub greatest_last : (i number : ℕ) (f : FrameParts) (w : List FrameParts) → own_sign i number ≡ identity_of f → NoneBefore f w
    → AllByRecursion (IsOwnSign i number) w → count_by is_els (without (identity_of f) w) ≡ 0
greatest_last i number f w same first own = none_left (identity_of f) w (each w first own)
  where
    els : is_els f ≡ true
    els = els_test f (sym (ap (λ (x : Identity). x.class) same))

    one : (g : FrameParts) → is_before g f ≡ false → IsOwnSign i number g → is_els g ≡ true → identity_of f ≡ identity_of g
    one g before is sign =
        let own = is sign in
        let at : number ≡ f.number = ap (λ (x : Identity). x.number) same in
        let equal : f.number ≡ g.number = omega (arith, at, own.1, not_lower f g els sign before) in
        let class' : f.class ≡ g.class = same_class-true f.class class.Els els ∙ sym (same_class-true g.class class.Els sign) in
        let node' : f.node ≡ g.node = sym (ap (λ (x : Identity). x.node) same) ∙ sym own.0 in
        λ k. record { class = class' k; number = equal k; node = node' k }

    each : (v : List FrameParts) → NoneBefore f v → AllByRecursion (IsOwnSign i number) v
        → AllByRecursion (λ g. is_els g ≡ true → identity_of f ≡ identity_of g) v
    each [] a b = tt
    each (g ∷ v) a b = (one g a.0 b.0, each v a.1 b.1)

-- ---- a turn

-- a life sign that is asked for is the next one, and is due
pub record IsDueSign (scenario : ScenarioParts) (i : ℕ) (past : List NoticeKind) (f : FrameParts) : Type 0 where
  pub is : own_sign i (life_signs_sent i past) ≡ identity_of f
  pub slot : ℕ
  pub now : length past ≡ suc slot
  pub due : is_due scenario.params.life i slot (knowledge_of scenario i past) ≡ true

-- neither a join nor a leave is one
requests_none : (c : Class) → (c ≡ class.Join) ⊎ (c ≡ class.Leave) → same_class c class.Els ≡ false
unfolding same_class
requests_none c (inl join) = ap (λ d. same_class d class.Els) join
requests_none c (inr leave) = ap (λ d. same_class d class.Els) leave

ask_is_due : (scenario : ScenarioParts) (i : ℕ) (past : List NoticeKind) (f : FrameParts) → MayAsk scenario i past f → is_els f ≡ true
    → IsDueSign scenario i past f
unfolding same_class
ask_is_due scenario i past f (lives slot now due frame) els = record { is = ap identity_of frame; slot = slot; now = now; due = due }
ask_is_due scenario i past f (relays relayed got) els =
    absurd (false≢true (sym (ap is_relayed (same_class-true f.class class.Els els)) ∙ relayed))
ask_is_due scenario i past f (originates m stands origin slot late frame) els =
    absurd (data_is_no_other m.service class.Els refl (ap (λ (h : FrameParts). h.class) frame ∙ same_class-true f.class class.Els els))
ask_is_due scenario i past f (confirms g sent rel own frame) els =
    absurd (false≢true (ap (λ (h : FrameParts). same_class h.class class.Els) frame ∙ els))
ask_is_due scenario i past f (accepts g sent tot own frame) els =
    absurd (false≢true (ap (λ (h : FrameParts). same_class h.class class.Els) frame ∙ els))
ask_is_due scenario i past f (signals sign slot now known frame) els =
    absurd (false≢true (ap (λ (h : FrameParts). same_class h.class class.Els) frame ∙ els))
ask_is_due scenario i past f (exchanges slot v sends frame) els =
    absurd (false≢true (ap (λ (h : FrameParts). same_class h.class class.Els) frame ∙ els))
ask_is_due scenario i past f (requests slot c may frame) els =
    let none : same_class c class.Els ≡ false = requests_none c (request_class scenario i past slot c may) in
    absurd (false≢true (sym none ∙ ap (λ (h : FrameParts). same_class h.class class.Els) frame ∙ els))

-- and none is withdrawn
may_not_withdraw : (scenario : ScenarioParts) (i : ℕ) (past : List NoticeKind) (x : Identity) → MayWithdraw scenario i past x
    → same_class x.class class.Els ≡ true → ⊥
unfolding same_class
may_not_withdraw scenario i past x (enough diffused many) els =
    false≢true (sym (ap is_diffused (same_class-true x.class class.Els els)) ∙ diffused)
may_not_withdraw scenario i past x (enough_accept f got accept same many) els =
    false≢true (ap (λ c. same_class c class.Els) (sym accept) ∙ ap (λ (y : Identity). same_class y.class class.Els) same ∙ els)
may_not_withdraw scenario i past x (closes f read tot same closed) els =
    false≢true (ap (λ (y : Identity). same_class y.class class.Els) same ∙ els)
may_not_withdraw scenario i past x (settles slot may same) els =
    false≢true (ap (λ (y : Identity). same_class y.class class.Els) same ∙ els)
may_not_withdraw scenario i past x (answered slot c ask now ends is own same) els =
    let none : same_class c class.Els ≡ false = requests_none c (elim is [ inl join ↦ inl join.0 | inr leave ↦ inr leave.0 ]) in
    false≢true (sym none ∙ ap (λ (y : Identity). same_class y.class class.Els) same ∙ els)

withdraws_none : (scenario : ScenarioParts) (p : Protocol) (i : ℕ) (past : List NoticeKind) (i' number : ℕ) (e : Effect)
    → Withdraws (own_sign i' number) e → IsFounded scenario p i past e → ⊥
withdraws_none scenario p i past i' number (Ask f) h k = h
withdraws_none scenario p i past i' number (Enter entry) h k = h
withdraws_none scenario p i past i' number (Withdraw x) h k =
    may_not_withdraw scenario i past x k.0 (ap (λ (y : Identity). same_class y.class class.Els) (sym h) ∙ same_class_self class.Els)

turn_withdraws_none : (scenario : ScenarioParts) (i : ℕ) (past : List NoticeKind) (number : ℕ)
    → Among (Withdraws (own_sign i number)) (turn_effects scenario i past) → ⊥
turn_withdraws_none scenario i past number h =
    let w = turn_effect (Withdraws (own_sign i number)) scenario i past h in
    withdraws_none scenario w.protocol i past i number w.effect w.is w.founded

-- what is put in place of a frame that waits makes no more of them
put_replaces : (f : FrameParts) (w : List FrameParts) → (is_els f ≡ true → waits (identity_of f) w ≡ true)
    → count_by is_els (with_frame f w) ≤ count_by is_els w
put_replaces f w h = elim (cases_Bool (is_els f)) [
  | inl els ↦
      let one : one_if (is_els f) ≡ 1 = cond-true {A = ℕ} (is_els f) 1 0 els in
      omega (arith, one, put_one f (without (identity_of f) w), without_one (identity_of f) (same_class-true f.class class.Els els) w (h els))
  | inr other ↦
      let none : one_if (is_els f) ≡ 0 = cond-false {A = ℕ} (is_els f) 1 0 other in
      omega (arith, none, put_one f (without (identity_of f) w), without_fewer (identity_of f) w)
]

-- where the only one that may be asked for waits already, no more of them wait
replaced : (x : Identity) (effects : List Effect) → AllByRecursion (AsksOnly (λ f. is_els f ≡ true → x ≡ identity_of f)) effects
    → (Among (Withdraws x) effects → ⊥) → (w : List FrameParts) → waits x w ≡ true → count_by is_els (waiting_after effects w) ≤ count_by is_els w
unfolding waiting_after
replaced x [] only kept w h = omega arith
replaced x (Ask f ∷ effects) only kept w h =
    omega (
      arith,
      replaced x effects only.1 (λ a. kept (inr a)) (with_frame f w) (waits-kept x f w h),
      put_replaces f w (λ els. ap (λ y. waits y w) (sym (only.0 els)) ∙ h),
    )
replaced x (Withdraw y ∷ effects) only kept w h = elim (waits-without x y w h) [
  | inl e ↦ absurd (kept (inl e))
  | inr still ↦ omega (arith, replaced x effects only.1 (λ a. kept (inr a)) (without y w) still, without_fewer y w)
]
replaced x (Enter entry ∷ effects) only kept w h = replaced x effects only.1 (λ a. kept (inr a)) w h

-- What a turn makes of the life signs that wait.
module _ (scenario : ScenarioParts) (i : ℕ) (e : NoticeKind) (past : List NoticeKind) (w : List FrameParts) where
  -- the number of the one that is asked for where it is due
  abbrev pub next_number : ℕ
  next_number = life_signs_sent i (e ∷ past)

  abbrev pub left : List FrameParts
  left = waiting_after (turn_effects scenario i (e ∷ past)) w

  -- one is asked for at most
  pub turn_asks_one : els_asks (turn_effects scenario i (e ∷ past)) ≤ 1
  turn_asks_one = elim (cases_Bool (due_in scenario i e past)) [
    | inl due ↦ omega (arith, cond-true {A = ℕ} (due_in scenario i e past) 1 0 due, turn_asks scenario i e past)
    | inr idle ↦ omega (arith, cond-false {A = ℕ} (due_in scenario i e past) 1 0 idle, turn_asks scenario i e past)
  ]

  -- so one more waits at most, after the turn and at each moment of it
  pub turn_more : count_by is_els left ≤ suc (count_by is_els w)
  turn_more = omega (arith, waiting_few (turn_effects scenario i (e ∷ past)) w, turn_asks_one)

  pub turn_partly : (first rest : List Effect) → turn_effects scenario i (e ∷ past) ≡ first ++ rest
      → count_by is_els (waiting_after first w) ≤ suc (count_by is_els w)
  turn_partly first rest parts = omega (arith, waiting_few first w, ap els_asks parts, asks_more first rest, turn_asks_one)

  -- no more where none is due, nor where the one that is asked for waits already
  pub turn_idle : due_in scenario i e past ≡ false → count_by is_els left ≤ count_by is_els w
  turn_idle idle =
      let none : one_if (due_in scenario i e past) ≡ 0 = cond-false {A = ℕ} (due_in scenario i e past) 1 0 idle in
      omega (arith, none, waiting_few (turn_effects scenario i (e ∷ past)) w, turn_asks scenario i e past)

  pub turn_replaces : waits (own_sign i next_number) w ≡ true → count_by is_els left ≤ count_by is_els w
  turn_replaces h =
      replaced (own_sign i next_number) (turn_effects scenario i (e ∷ past))
      (turn_only (λ f. is_els f ≡ true → own_sign i next_number ≡ identity_of f) scenario i (e ∷ past)
      (λ f may els. (ask_is_due scenario i (e ∷ past) f may els).is))
      (turn_withdraws_none scenario i (e ∷ past) next_number) w h

  waits_left : (number : ℕ) → (waits (own_sign i number) w ≡ true) ⊎ Among (Asks (own_sign i number)) (turn_effects scenario i (e ∷ past))
      → waits (own_sign i number) left ≡ true
  waits_left number h = elim (waits_after (own_sign i number) (turn_effects scenario i (e ∷ past)) w h) [
    | inl gone ↦ absurd (turn_withdraws_none scenario i (e ∷ past) number gone)
    | inr still ↦ still
  ]

  -- each of them waits on
  pub turn_keeps : (number : ℕ) → waits (own_sign i number) w ≡ true → waits (own_sign i number) left ≡ true
  turn_keeps number h = waits_left number (inl h)

  -- the one that is due waits
  pub turn_asks_due : due_in scenario i e past ≡ true → waits (own_sign i next_number) left ≡ true
  unfolding life_effects
  turn_asks_due due =
      waits_left next_number
      (inr (turn_has (Asks (own_sign i next_number)) scenario i (e ∷ past) life_signs life_is_one
      (cond_both (due_in scenario i e past) (Ask (els_frame scenario.inc i next_number) ∷ []) [] (Among (Asks (own_sign i next_number)))
      (λ _. inl refl) (λ idle. absurd (both_ways (due_in scenario i e past) idle due)))))

  -- all have numbers up to the one that may be asked for
  pub turn_numbers : (number : ℕ) → number ≤ next_number → AllByRecursion (IsOwnSign i number) w → AllByRecursion (IsOwnSign i next_number) left
  turn_numbers number l h =
      Each-after (IsOwnSign i next_number) (turn_effects scenario i (e ∷ past)) w
      (turn_only (IsOwnSign i next_number) scenario i (e ∷ past) (λ f may els.
      let same = (ask_is_due scenario i (e ∷ past) f may els).is in
      let at : next_number ≡ f.number = ap (λ (x : Identity). x.number) same in
      (sym (ap (λ (x : Identity). x.node) same), omega (arith, at))))
      (own_signs_later i number next_number l w h)

  -- and all stay below a number where none is due
  pub turn_idle_numbers : (number : ℕ) → due_in scenario i e past ≡ false → AllByRecursion (IsOwnSign i number) w
      → AllByRecursion (IsOwnSign i number) left
  turn_idle_numbers number idle h =
      Each-after (IsOwnSign i number) (turn_effects scenario i (e ∷ past)) w
      (turn_only (IsOwnSign i number) scenario i (e ∷ past) (λ f may els.
      let sign = ask_is_due scenario i (e ∷ past) f may els in
      let now : length past ≡ sign.slot = omega (arith, sign.now) in
      let due : due_in scenario i e past ≡ true =
      ap (λ slot. is_due scenario.params.life i slot (knowledge_of scenario i (e ∷ past))) now ∙ sign.due in
      absurd (both_ways (due_in scenario i e past) idle due)))
      h
