-- Where the next message of a backlog waits after an idle slot, it waits after any other notice
-- too: to read the node's own transmission of the last message that was asked for moves the place
-- of that message, and it waits for that.
use Rattle.std.specs.List.{AllByRecursion, list_all, list_any}
use Rattle.std.proofs.Common.{◌≡◌, ℕ, zero, suc, ◌+◌, ◌-◌, ◌<◌, ◌≤◌, ◌&&◌, ◌||◌, Bool, true, false, not, inl, inr, List, [], ◌∷◌, ◌++◌, length, drop, take, None, refl, ap, sym, ◌∙◌, subst, arith}
use Rattle.std.proofs.lemmas.Bool.{and_from, cases_Bool, or_right}
use Rattle.std.proofs.lemmas.Bool.Decides.{nat_tests}
use Rattle.cany_base.specs.declared.class.Class.TheVariants as class
use Rattle.cany_base.specs.declared.message.MsgKey.{MsgKey}
use Rattle.cany_base.specs.declared.notice.NoticeKind.{NoticeKind}
use Rattle.cany_base.specs.declared.notice.NoticeKind.TheVariants.{Idle}
use Rattle.cany_base.specs.Frame.{data_class}
use Rattle.cany_base.specs.Params.{Parameters}
use Rattle.cany_base.specs.Scenario.{ScenarioParts}
use Rattle.cany_model.specs.Bus.Frames.{Identity}
use Rattle.cany_model.specs.Bus.History.{has_own, is_got, is_sent}
use Rattle.cany_model.specs.Rules.Backlog.{is_free, next_after, next_of}
use Rattle.cany_model.specs.Rules.Messages.{Message, data_id, message_key}
use Rattle.cany_model.specs.Rules.Totcan.{holds, is_recent, tot_of_key}
use Rattle.cany_model.proofs.Rules.Services.BacklogFacts.{free-after}
use Rattle.cany_totcan.specs.Totcan.{IsOwnTot, IsTotcanOf, TotcanParts}

-- ---- the last message

-- the last of so many messages
record IsLast (P : Message → Type 0) (messages : List Message) (n : ℕ) : Type 0 where
  last : Message
  is : take (suc n) messages ≡ take n messages ++ last ∷ []
  has : P last

last_of : (P : Message → Type 0) (messages : List Message) (n : ℕ) → n < length messages → AllByRecursion P messages → IsLast P messages n
last_of P [] n within all = absurd (omega (arith, within))
last_of P (m ∷ messages) zero within all = record { last = m; is = refl; has = all.0 }
last_of P (m ∷ messages) (suc n) within all =
    let rest = last_of P messages n (omega (arith, within)) all.1 in
    record { last = rest.last; is = ap (λ ms. m ∷ ms) rest.is; has = rest.has }

-- the node's own transmission is read now, a copy is read now, it was before, and the place is
-- recent
later_free : (sent got own recent : Bool) → (own && not recent) ≡ false → ((sent || own) && not ((got || sent) || recent)) ≡ false
later_free sent got own recent before = grind (arith, nat_tests, before)

module _ (p : Parameters) (some : 0 < p.bound) (e : NoticeKind) (past : List NoticeKind) where
  all_read : (now : NoticeKind) (earlier : List Message) → AllByRecursion (λ m. has_own (data_id m) past ≡ true) earlier
      → list_all (λ m. has_own (data_id m) (now ∷ past)) earlier ≡ true
  unfolding has_own
  all_read now [] all = refl
  all_read now (m ∷ earlier) all =
      and_from (has_own (data_id m) (now ∷ past)) (list_all (λ m. has_own (data_id m) (now ∷ past)) earlier)
      (or_right (is_sent (data_id m) now) (has_own (data_id m) past) all.0) (all_read now earlier all.1)

  -- whether the place of the message is one of the newest before the notice
  abbrev recent_before : ℕ → MsgKey → Bool
  recent_before n key = list_any (holds key) (take n past)

  waits_last : (x : Identity) (key : MsgKey) (n : ℕ) → tot_of_key key ≡ x → (has_own x (Idle ∷ past) && not (is_recent (suc n) key (Idle ∷ past))) ≡ false
      → (has_own x (e ∷ past) && not (is_recent (suc n) key (e ∷ past))) ≡ false
  unfolding has_own is_recent
  waits_last x key n named before =
      ap (λ y. (is_sent x e || list_any (is_sent x) past) && not ((is_got y e || is_sent y e) || recent_before n key)) named
      ∙ later_free (is_sent x e) (is_got x e) (list_any (is_sent x) past) (recent_before n key) before

  -- after the last of these messages the next one waits
  waits_after : (earlier : List Message) (m : Message) → data_class m.service ≡ class.Tot → AllByRecursion (λ m. has_own (data_id m) past ≡ true) earlier
      → is_free p (earlier ++ m ∷ []) (Idle ∷ past) ≡ false → is_free p (earlier ++ m ∷ []) (e ∷ past) ≡ false
  waits_after earlier m is all before =
      let spacing : p.bound + p.lag ≡ suc (p.bound + p.lag - 1) = omega (arith, some) in
      let named : tot_of_key (message_key m) ≡ data_id m = λ j. record { class = sym is j; number = m.seq; node = m.origin } in
      free-after p (e ∷ past) earlier m (all_read e earlier all)
      ∙ ap (λ n. has_own (data_id m) (e ∷ past) && not (is_recent n (message_key m) (e ∷ past))) spacing
      ∙ waits_last (data_id m) (message_key m) (p.bound + p.lag - 1) named
      (ap (λ n. has_own (data_id m) (Idle ∷ past) && not (is_recent n (message_key m) (Idle ∷ past))) (sym spacing)
      ∙ sym (free-after p (Idle ∷ past) earlier m (all_read Idle earlier all)) ∙ before)

  none_of : (earlier later : List Message) → (is_free p earlier (Idle ∷ past) ≡ false → is_free p earlier (e ∷ past) ≡ false)
      → next_of p (Idle ∷ past) earlier later ≡ None → next_of p (e ∷ past) earlier later ≡ None
  none_of earlier [] waits none = refl
  none_of earlier (m ∷ later) waits none = elim (cases_Bool (is_free p earlier (Idle ∷ past))) [
    | inl free ↦ let taken = rw free at none in absurd (cc)
    | inr waited ↦ rw (waits waited) refl
  ]

-- none is asked for after the notice where none would be after an idle slot
pub none_asked_next : (scenario : ScenarioParts) (i : ℕ) (past : List NoticeKind) (messages : List Message) (count : ℕ) (v : TotcanParts) (e : NoticeKind)
    → IsTotcanOf scenario i past messages count v → next_after scenario.params (Idle ∷ past) messages count ≡ None
    → next_after scenario.params (e ∷ past) messages count ≡ None
none_asked_next scenario i past messages count v e h none = none_of p some e past (take count messages) (drop count messages) (waits count h.backlog.some h.backlog.earlier) none
  where
    p : Parameters
    p = scenario.params

    some : 0 < scenario.params.bound
    some = omega (arith, h.limits.legal.in_range.bound.0)

    waits : (n : ℕ) → n ≤ length messages → AllByRecursion (λ m. has_own (data_id m) past ≡ true) (take (n - 1) messages)
        → is_free scenario.params (take n messages) (Idle ∷ past) ≡ false → is_free scenario.params (take n messages) (e ∷ past) ≡ false
    waits zero within all waited = absurd (cc)
    waits (suc n) within all waited =
        let here : suc n - 1 ≡ n = omega arith in
        let last = last_of (IsOwnTot scenario i) messages n (omega (arith, within)) h.backlog.are_own in
        ap (λ ms. is_free scenario.params ms (e ∷ past)) last.is
        ∙ waits_after scenario.params some e past (take n messages) last.last (ap data_class last.has.sent_by)
        (subst (λ k. AllByRecursion (λ m. has_own (data_id m) past ≡ true) (take k messages)) here all)
        (ap (λ ms. is_free scenario.params ms (Idle ∷ past)) (sym last.is) ∙ waited)
