-- Places of TOTCAN messages: which notice is the place, and how old it is.
use Rattle.std.proofs.Common.{◌≡◌, ℕ, zero, suc, ◌+◌, ◌≤◌, ◌||◌, inl, inr, Bool, true, false, List, [], ◌∷◌, take, drop, Some, None, refl, ap, sym, ◌∙◌, arith, add-one}
use Rattle.std.specs.List.{list_any}
use Rattle.std.proofs.Math.Bool.{or-false, or_assoc}
use Rattle.std.proofs.lemmas.Bool.{false≢true, cases_lt, cond_both, or_cases, or_left, or_right}
use Rattle.cany_base.specs.declared.class.Class.TheVariants as class
use Rattle.cany_base.specs.declared.message.MsgKey.{MsgKey}
use Rattle.cany_base.specs.declared.notice.NoticeKind.{NoticeKind}
use Rattle.cany_base.specs.declared.notice.NoticeKind.TheVariants.{Idle, Got, Sent, Bad}
use Rattle.cany_base.specs.Frame.{FrameParts}
use Rattle.cany_model.specs.Bus.Frames.{Identity, identity_of, same_class}
use Rattle.cany_model.specs.Bus.History.{is_got, is_sent}
use Rattle.cany_model.specs.Rules.Totcan.{holds, if_tot, is_recent, message_in, tot_in, tot_of_key}
use Rattle.cany_model.proofs.Bus.Carried.{Has, is_got-from, is_got-true, is_sent-from, is_sent-true}
use Rattle.cany_model.proofs.Bus.Identities.{same_class-true, same_class_self}

-- ---- a test over the newest

any_suc : {X : Type 0} (q : X → Bool) (n : ℕ) (xs : List X) (x : X) (rest : List X) → drop n xs ≡ x ∷ rest
    → list_any q (take (suc n) xs) ≡ (list_any q (take n xs) || q x)
any_suc q zero [] x rest at = absurd (cc)
any_suc q zero (y ∷ xs) x rest at = let same : y ≡ x = cc in or-false (q y) ∙ ap q same
any_suc q (suc n) [] x rest at = absurd (cc)
any_suc q (suc n) (y ∷ xs) x rest at =
    ap (λ b. q y || b) (any_suc q n xs x rest at) ∙ sym (or_assoc (q y) (list_any q (take n xs)) (q x))

-- with one element more, which is the next one
pub any_more : {X : Type 0} (q : X → Bool) (n : ℕ) (xs : List X) (x : X) (rest : List X) → drop n xs ≡ x ∷ rest
    → list_any q (take (n + 1) xs) ≡ (list_any q (take n xs) || q x)
any_more q n xs x rest at = rw add-one (any_suc q n xs x rest at)

-- ---- the data frame that a notice brings

-- the notice brings the data frame of a TOTCAN message
pub record Brings (f : FrameParts) (e : NoticeKind) : Type 0 where
  pub has : Has f e
  pub tot : f.class ≡ class.Tot

tot_class : (g f : FrameParts) → if_tot g ≡ Some f → (g ≡ f) × (f.class ≡ class.Tot)
tot_class g f h =
    cond_both (same_class g.class class.Tot) (Some g) None (λ o. o ≡ Some f → (g ≡ f) × (f.class ≡ class.Tot))
    (λ tot is. let same : g ≡ f = cc in (same, ap (λ (x : FrameParts). x.class) (sym same) ∙ same_class-true g.class class.Tot tot))
    (λ _ none. absurd (cc))
    h

pub tot_in-brings : (e : NoticeKind) (f : FrameParts) → tot_in e ≡ Some f → Brings f e
unfolding tot_in
tot_in-brings Idle f h = absurd (cc)
tot_in-brings Bad f h = absurd (cc)
tot_in-brings (Got g) f h = let w = tot_class g f h in record { has = inl (ap (λ x. Got x) w.0); tot = w.1 }
tot_in-brings (Sent g) f h = let w = tot_class g f h in record { has = inr (ap (λ x. Sent x) w.0); tot = w.1 }

if_tot-some : (f : FrameParts) → f.class ≡ class.Tot → if_tot f ≡ Some f
if_tot-some f tot = rw (ap (λ c. same_class c class.Tot) tot ∙ same_class_self class.Tot) refl

-- the notice is one for the message
pub record IsPlace (key : MsgKey) (e : NoticeKind) : Type 0 where
  pub frame : FrameParts
  pub brought : tot_in e ≡ Some frame
  pub names : message_in frame ≡ key

-- it brought a frame of the identity of the message's data frame
place_of : (key : MsgKey) (e : NoticeKind) (f : FrameParts) → tot_in e ≡ if_tot f → tot_of_key key ≡ identity_of f → IsPlace key e
place_of key e f brought same = record {
  frame = f;
  brought = brought ∙ if_tot-some f (sym (ap (λ (x : Identity). x.class) same));
  names = λ k. record { origin = (sym same k).node; seq = (sym same k).number };
}

pub holds-place : (key : MsgKey) (e : NoticeKind) → holds key e ≡ true → IsPlace key e
unfolding tot_in
holds-place key e h = elim (or_cases (is_got (tot_of_key key) e) (is_sent (tot_of_key key) e) h) [
  | inl got ↦ let w = is_got-true (tot_of_key key) e got in place_of key e w.what (ap tot_in w.was) w.identity
  | inr sent ↦ let w = is_sent-true (tot_of_key key) e sent in place_of key e w.what (ap tot_in w.was) w.identity
]

pub tot_in-holds : (e : NoticeKind) (f : FrameParts) → tot_in e ≡ Some f → holds (message_in f) e ≡ true
tot_in-holds e f h =
    let b = tot_in-brings e f h in
    let x : Identity = tot_of_key (message_in f) in
    let same : x ≡ identity_of f = λ k. record { class = (sym b.tot) k; number = f.number; node = f.node } in
    elim b.has [
      | inl got ↦ or_left (is_got x e) (is_sent x e) (is_got-from x f e got same)
      | inr sent ↦ or_right (is_got x e) (is_sent x e) (is_sent-from x f e sent same)
    ]

-- ---- how old a place is

-- with one notice more that is looked at, which is the next older one
pub recent-more : (age : ℕ) (key : MsgKey) (past : List NoticeKind) (e : NoticeKind) (older : List NoticeKind) → drop age past ≡ e ∷ older
    → is_recent (age + 1) key past ≡ (is_recent age key past || holds key e)
unfolding is_recent
recent-more age key past e older at = any_more (holds key) age past e older at

pub recent-wider : (m n : ℕ) (key : MsgKey) (past : List NoticeKind) → m ≤ n → is_recent m key past ≡ true → is_recent n key past ≡ true
unfolding is_recent
recent-wider zero n key past less h = absurd (false≢true h)
recent-wider (suc m) zero key past less h = absurd (omega arith)
recent-wider (suc m) (suc n) key [] less h = absurd (false≢true h)
recent-wider (suc m) (suc n) key (e ∷ past) less h = elim (or_cases (holds key e) (is_recent m key past) h) [
  | inl here ↦ or_left (holds key e) (is_recent n key past) here
  | inr there ↦ or_right (holds key e) (is_recent n key past) (recent-wider m n key past (omega arith) there)
]

-- the place of a message: the notice at this age, and those before it
pub record Place (key : MsgKey) (past : List NoticeKind) : Type 0 where
  pub age : ℕ
  pub notice : NoticeKind
  pub older : List NoticeKind
  pub at : drop age past ≡ notice ∷ older
  pub is : holds key notice ≡ true
  pub newest : is_recent age key past ≡ false

-- a place that is not recent is older
pub place-old : (n : ℕ) (key : MsgKey) (past : List NoticeKind) → is_recent n key past ≡ false → (w : Place key past) → n ≤ w.age
place-old n key past closed w = elim (cases_lt w.age n) [
  | inr old ↦ old
  | inl young ↦
      absurd (false≢true (sym closed ∙ recent-wider (w.age + 1) n key past (omega (arith, young))
      (recent-more w.age key past w.notice w.older w.at ∙ or_right (is_recent w.age key past) (holds key w.notice) w.is)))
]
