-- Tables follow the one order of TOTCAN.
use Rattle.std.proofs.Common.{◌≡◌, ℕ, ◌+◌, ◌<◌, ◌≤◌, ◌==◌, ◌&&◌, inl, inr, Bool, true, false, List, [], ◌∷◌, ◌++◌, length, take, drop, count_by, Contains, refl, ap, sym, subst, ◌∙◌, arith, length-append}
use Rattle.std.specs.Prelude.{if◌then◌else◌}
use Rattle.std.proofs.lemmas.Bool.{cases_lt, eq-eqb}
use Rattle.std.proofs.lemmas.List.{take-take, take-append-drop}
use Rattle.std.proofs.lemmas.List.Elements.{Contains-append_left}
use Rattle.std.proofs.Math.Seq.{take-append_seam}
use Rattle.cany_base.specs.declared.log_entry.LogEntry.{LogEntry}
use Rattle.cany_base.specs.declared.log_entry.LogEntry.TheVariants.{Deliver, Failed, View}
use Rattle.cany_base.specs.declared.message.MsgKey.{MsgKey}
use Rattle.cany_base.specs.declared.message.Service.TheVariants.{Tot}
use Rattle.cany_base.specs.Scenario.{ScenarioParts}
use Rattle.cany_model.specs.Bus.State.{RunState, node_at}
use Rattle.cany_model.specs.Promises.Entries.{delivers_key}
use Rattle.cany_model.specs.Promises.Order.{Content, order, tot_deliveries}
use Rattle.cany_model.specs.Promises.Safe.{IsSafe}
use Rattle.cany_model.specs.Promises.Settled.{IsCorrect, IsCorrectFrom}
use Rattle.cany_model.specs.Rules.Log.{log}
use Rattle.cany_model.specs.Rules.Messages.{is_service}
-- of some element of a list, and of counts
use Rattle.cany_model.proofs.Among.{Among, Among-from_Contains, Among-weaker, count-from_Among, count-grows, count-no, count-yes, count-cons}
use Rattle.cany_replica.specs.declared.answer.Answer.{Answer}
use Rattle.cany_replica.specs.Agreement.{FollowsTable, HasOneTable}
use Rattle.cany_replica.specs.Fold.{replies_after, replies_of, table_after, table_of}
use Rattle.cany_replica.specs.ReplicaText.{applied}
use Rattle.cany_replica.specs.Table.{TableParts, apply, empty_table}
use Rattle.cany_replica.proofs.FoldFacts.{answers-append}

-- ---- a message has one reply in a list of answers that has it once

abbrev is_key : MsgKey → MsgKey → Bool
is_key key msg = msg.origin == key.origin && msg.seq == key.seq

abbrev answers_key : MsgKey → Answer → Bool
answers_key key answer = is_key key answer.msg

same_key : (msg key : MsgKey) → msg ≡ key → is_key key msg ≡ true
same_key msg key same =
    let origin : msg.origin ≡ key.origin = ap (λ (k : MsgKey). k.origin) same in
    let seq : msg.seq ≡ key.seq = ap (λ (k : MsgKey). k.seq) same in
    rw (eq-eqb msg.origin key.origin origin, eq-eqb msg.seq key.seq seq) refl

-- an answer that stands in a list counts
counts : (answers : List Answer) (a : Answer) (key : MsgKey) → a.msg ≡ key → Among (λ b. b ≡ a) answers → 0 < count_by (answers_key key) answers
counts answers a key same h =
    count-from_Among (answers_key key) answers
    (Among-weaker (λ b. b ≡ a) (λ b. answers_key key b ≡ true) (λ b is. same_key b.msg key (ap (λ (x : Answer). x.msg) is ∙ same)) answers h)

one_of : (answers : List Answer) (a b : Answer) (key : MsgKey) → a.msg ≡ key → b.msg ≡ key → count_by (answers_key key) answers ≤ 1
    → Among (λ x. x ≡ a) answers → Among (λ x. x ≡ b) answers → a.reply ≡ b.reply
one_of [] a b key ka kb once ha hb = absurd ha
one_of (x ∷ xs) a b key ka kb once (inl xa) (inl xb) = ap (λ (y : Answer). y.reply) (sym xa ∙ xb)
one_of (x ∷ xs) a b key ka kb once (inl xa) (inr hb) =
    let here = count-yes (answers_key key) x xs (same_key x.msg key (ap (λ (y : Answer). y.msg) xa ∙ ka)) in
    absurd (omega (arith, once, here, counts xs b key kb hb))
one_of (x ∷ xs) a b key ka kb once (inr ha) (inl xb) =
    let here = count-yes (answers_key key) x xs (same_key x.msg key (ap (λ (y : Answer). y.msg) xb ∙ kb)) in
    absurd (omega (arith, once, here, counts xs a key ka ha))
one_of (x ∷ xs) a b key ka kb once (inr ha) (inr hb) =
    one_of xs a b key ka kb (omega (arith, once, count-grows (answers_key key) x xs)) ha hb

-- ---- a log that delivers a message once has one answer to it

abbrev has_key : MsgKey → Content → Bool
has_key key m = is_key key m.msg

count-answers : (key : MsgKey) (table : TableParts) (ms : List Content) → count_by (answers_key key) (replies_after table ms) ≡ count_by (has_key key) ms
unfolding replies_after
count-answers key table [] = refl
count-answers key table (m ∷ ms) =
    let t : TableParts = (apply table m.payload).0 in
    let a : Answer = record { msg = m.msg; reply = (apply table m.payload).1 } in
    omega (arith, count-cons (answers_key key) a (replies_after t ms), count-cons (has_key key) m ms, count-answers key t ms)

-- one delivery more, if it is one of TOTCAN
count-more : (key : MsgKey) (b : Bool) (m : Content) (ms : List Content) (d : Bool) (n k : ℕ) → count_by (has_key key) ms ≤ n
    → has_key key m ≡ d → k ≡ (if d then 1 else 0) + n → count_by (has_key key) ((if b then m ∷ [] else []) ++ ms) ≤ k
count-more key true m ms true n k few is more = omega (arith, few, more, count-yes (has_key key) m ms is)
count-more key true m ms false n k few is more = omega (arith, few, more, count-no (has_key key) m ms is)
count-more key false m ms true n k few is more = omega (arith, few, more)
count-more key false m ms false n k few is more = omega (arith, few, more)

count-delivered : (key : MsgKey) (entries : List LogEntry) → count_by (has_key key) (tot_deliveries entries) ≤ count_by (delivers_key key) entries
count-delivered key [] = omega arith
count-delivered key (Deliver slot service msg payload ∷ entries) =
    count-more key (is_service service Tot) (record { msg = msg; payload = payload }) (tot_deliveries entries) (is_key key msg)
    (count_by (delivers_key key) entries) (count_by (delivers_key key) (Deliver slot service msg payload ∷ entries))
    (count-delivered key entries) refl (count-cons (delivers_key key) (Deliver slot service msg payload) entries)
count-delivered key (Failed slot node cycle ∷ entries) =
    omega (arith, count-delivered key entries, count-grows (delivers_key key) (Failed slot node cycle) entries)
count-delivered key (View slot number members ∷ entries) =
    omega (arith, count-delivered key entries, count-grows (delivers_key key) (View slot number members) entries)

-- ---- prefixes of one list

-- the shorter of two prefixes is one of the longer
shorter : {X : Type 0} (xs ys rest rest' all : List X) → all ≡ xs ++ rest → all ≡ ys ++ rest' → length xs ≤ length ys → ys ≡ xs ++ drop (length xs) ys
shorter {X} xs ys rest rest' all first second le =
    let is_first : take (length xs) all ≡ xs = ap (take (length xs)) first ∙ take-append_seam xs rest in
    let is_second : take (length ys) all ≡ ys = ap (take (length ys)) second ∙ take-append_seam ys rest' in
    let start : take (length xs) ys ≡ xs = ap (take (length xs)) (sym is_second) ∙ take-take (length xs) (length ys) all le ∙ is_first in
    sym (take-append-drop (length xs) ys) ∙ ap (λ (zs : List X). zs ++ drop (length xs) ys) start

-- ---- the promise

module _ (scenario : ScenarioParts) (s : RunState) (safe : IsSafe scenario s) where
  follows_from : (i from : ℕ) → IsCorrect scenario s i → (node_at s.nodes i).present.from ≡ from → FollowsTable scenario s i from
  follows_from i from correct since =
      let follows = safe.order i correct in
      let all : order scenario s from ≡ applied scenario s i ++ follows.rest =
      subst (λ f. order scenario s f ≡ applied scenario s i ++ follows.rest) since follows.prefix in
      let cut : applied scenario s i ≡ take (length (applied scenario s i)) (order scenario s from) =
      sym (ap (take (length (applied scenario s i))) all ∙ take-append_seam (applied scenario s i) follows.rest) in
      record {
        few = omega (arith, ap length all, length-append (applied scenario s i) follows.rest);
        table = ap table_of cut;
        answers = ap replies_of cut;
      }

  from_zero : (i : ℕ) → IsCorrectFrom scenario s 0 i → (node_at s.nodes i).present.from ≡ 0
  from_zero i h = omega (arith, h.took_part)

  whole_order : (i : ℕ) (h : IsCorrectFrom scenario s 0 i) → order scenario s 0 ≡ applied scenario s i ++ (safe.order i h.correct).rest
  whole_order i h =
      subst (λ f. order scenario s f ≡ applied scenario s i ++ (safe.order i h.correct).rest) (from_zero i h) (safe.order i h.correct).prefix

  same_list : (i j : ℕ) → IsCorrectFrom scenario s 0 i → IsCorrectFrom scenario s 0 j
      → length (applied scenario s i) ≡ length (applied scenario s j) → applied scenario s i ≡ applied scenario s j
  same_list i j hi hj same =
      let xs = applied scenario s i in
      let ys = applied scenario s j in
      sym (take-append_seam xs (safe.order i hi.correct).rest) ∙ ap (take (length xs)) (sym (whole_order i hi))
      ∙ ap (λ n. take n (order scenario s 0)) same ∙ ap (take (length ys)) (whole_order j hj) ∙ take-append_seam ys (safe.order j hj.correct).rest

  -- where the first node applied no more messages than the second
  reply_below : (i j : ℕ) → IsCorrectFrom scenario s 0 i → IsCorrectFrom scenario s 0 j → (a b : Answer)
      → Contains (replies_of (applied scenario s i)) a → Contains (replies_of (applied scenario s j)) b → a.msg ≡ b.msg
      → length (applied scenario s i) ≤ length (applied scenario s j) → a.reply ≡ b.reply
  reply_below i j hi hj a b ha hb same le =
      let xs = applied scenario s i in
      let ys = applied scenario s j in
      let more = shorter xs ys (safe.order i hi.correct).rest (safe.order j hj.correct).rest (order scenario s 0) (whole_order i hi) (whole_order j hj) le in
      let parts = ap replies_of more ∙ answers-append empty_table xs (drop (length xs) ys) in
      let there : Contains (replies_of ys) a = subst (λ (l : List Answer). Contains l a) (sym parts)
      (Contains-append_left (replies_of xs) (replies_after (table_after empty_table xs) (drop (length xs) ys)) a ha) in
      let once = safe.integrity.once j hj.correct b.msg in
      one_of (replies_of ys) a b b.msg same refl
      (omega (arith, once, count-answers b.msg empty_table ys, count-delivered b.msg (log scenario s j)))
      (Among-from_Contains (replies_of ys) a there) (Among-from_Contains (replies_of ys) b hb)

  one_reply_of : (i j : ℕ) → IsCorrectFrom scenario s 0 i → IsCorrectFrom scenario s 0 j → (a b : Answer)
      → Contains (replies_of (applied scenario s i)) a → Contains (replies_of (applied scenario s j)) b → a.msg ≡ b.msg → a.reply ≡ b.reply
  one_reply_of i j hi hj a b ha hb same = elim (cases_lt (length (applied scenario s i)) (length (applied scenario s j))) [
    | inl less ↦ reply_below i j hi hj a b ha hb same (omega (arith, less))
    | inr le ↦ sym (reply_below j i hj hi b a hb ha (sym same) le)
  ]

  pub one_table : HasOneTable scenario s
  one_table = record {
    follows = λ i correct. follows_from i (node_at s.nodes i).present.from correct refl;
    from_the_start = λ i h. follows_from i 0 h.correct (from_zero i h);
    equal = λ i j hi hj same. record { tables = ap table_of (same_list i j hi hj same); answers = ap replies_of (same_list i j hi hj same) };
    one_reply = one_reply_of;
  }
