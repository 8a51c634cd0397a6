-- What a step publishes.
use Rattle.std.proofs.lemmas.Bool.{cases_lt}
use Rattle.std.proofs.Common.{min, ◌≡◌, ◌≢◌, ◌⊎◌, ℕ, zero, suc, ◌+◌, ◌-◌, ◌<◌, ◌≤◌, Bool, true, false, List, [], ◌∷◌, ◌++◌, length, take, drop, refl, ap, sym, subst, ◌∙◌, arith, set, inl, inr, ⊎_elim, append_assoc, length-append, length-drop, take-append-drop, get_or, map, Option, Some, None, slice_get}
use Rattle.std.specs.Prelude.{if◌then◌else◌, IfSome}
use Rattle.std.proofs.lemmas.List.{append-nil, map-append, get_or-set_same, get_or-set_other, length-set, take_all, take_more}
use mathlib.Core.List.{IsPrefix}
use Rattle.cany_base.specs.declared.log_entry.LogEntry.{LogEntry}
use Rattle.cany_base.specs.Scenario.{ScenarioParts}
use Rattle.cany_model.specs.Bus.State.{RunState, node_at}
use Rattle.cany_model.specs.Runs.Incarnations.{log_of}
use Rattle.cany_world.specs.World.{WorldParts}
use Rattle.std.proofs.Math.Seq.{take-length}
use Rattle.cany_watch.specs.Halls.{AreFirst, HasTaken, HasTakenUp, HasPublished, HavePublished, IsAllShown, IsPublisherOf, IsShownBut, ArePublishersOf, publisher_at, no_publisher}
use Rattle.cany_watch.specs.Notes.{NoteParts}
use Rattle.cany_watch.specs.Lines.{HaveGrown, Longer, line, line_of, nodes_of}
use Rattle.cany_watch.specs.Publishers.{PublisherParts, note_of}
use Rattle.cany_watch.proofs.LineFacts.{logs_begin_line, logs_below}
use Rattle.cany_watch.proofs.Prefixes.{prefix_self, prefix_trans, prefix_shorter, prefix_whole}

pub took_some : (entries : List LogEntry) (s s' : PublisherParts) (n : ℕ) → s' ≡ record s { taken = s.taken ++ take n entries } → HasTaken false entries s s'
took_some entries s s' n is = record {
  same = (ap (λ (x : PublisherParts). x.book) is, ap (λ (x : PublisherParts). x.shown) is);
  grows = (take n entries, sym (ap (λ (x : PublisherParts). x.taken) is));
  some = subst (λ (l : List LogEntry). IsPrefix l (s.taken ++ entries)) (sym (ap (λ (x : PublisherParts). x.taken) is)) (drop n entries, append_assoc s.taken (take n entries) (drop n entries) ∙ ap (λ (l : List LogEntry). s.taken ++ l) (take-append-drop n entries));
  all = λ e. absurd (cc e);
}

pub took_all : (entries : List LogEntry) (s s' : PublisherParts) → s' ≡ record s { taken = s.taken ++ entries } → HasTaken true entries s s'
took_all entries s s' is = record {
  same = (ap (λ (x : PublisherParts). x.book) is, ap (λ (x : PublisherParts). x.shown) is);
  grows = (entries, sym (ap (λ (x : PublisherParts). x.taken) is));
  some = subst (λ (l : List LogEntry). IsPrefix l (s.taken ++ entries)) (sym (ap (λ (x : PublisherParts). x.taken) is)) (prefix_self (s.taken ++ entries));
  all = λ e. ap (λ (x : PublisherParts). x.taken) is;
}

-- ---- some of the entries were taken

abbrev pub so_far : List LogEntry → PublisherParts → ℕ → PublisherParts
so_far entries s i = record s { taken = s.taken ++ take i entries }

pub so_far_none : (entries : List LogEntry) (s : PublisherParts) → s ≡ so_far entries s 0
so_far_none entries s = ap (λ (l : List LogEntry). record s { taken = l }) (sym (append-nil s.taken))

pub so_far_all : (entries : List LogEntry) (s s' : PublisherParts) (i : ℕ) → length entries ≤ i → s' ≡ so_far entries s i → HasTaken true entries s s'
so_far_all entries s s' i all is = took_all entries s s' (is ∙ ap (λ (l : List LogEntry). record s { taken = s.taken ++ l }) (take_all i entries all))

pub so_far_more : (entries : List LogEntry) (s m s' : PublisherParts) (i : ℕ) (entry : LogEntry) → i < length entries → entry ≡ get_or entries i entry
    → m ≡ so_far entries s i → (s'.book ≡ m.book) × (s'.shown ≡ m.shown) → s'.taken ≡ m.taken ++ entry ∷ [] → s' ≡ so_far entries s (i + 1)
so_far_more entries s m s' i entry within at is same taken =
    let book : s'.book ≡ s.book = same.0 ∙ ap (λ (p : PublisherParts). p.book) is in
    let shown : s'.shown ≡ s.shown = same.1 ∙ ap (λ (p : PublisherParts). p.shown) is in
    let all : s'.taken ≡ s.taken ++ take (i + 1) entries =
    taken ∙ ap (λ (p : PublisherParts). p.taken ++ entry ∷ []) is ∙ append_assoc s.taken (take i entries) (entry ∷ [])
    ∙ ap (λ (e : LogEntry). s.taken ++ (take i entries ++ e ∷ [])) at ∙ ap (λ (l : List LogEntry). s.taken ++ l) (sym (take_more entries i entry within)) in
    λ j. record { book = book j; shown = shown j; taken = all j }

-- what was taken, and the rest of the line
pub rest_of : {A : Type 0} (xs ys : List A) → IsPrefix xs ys → xs ++ drop (length xs) ys ≡ ys
rest_of [] ys p = refl
rest_of (x ∷ xs) [] p = absurd (cc (p.1))
rest_of {A} (x ∷ xs) (y ∷ ys) p =
    let head : x ≡ y = cc (p.1) in
    let tail : xs ++ drop (length xs) ys ≡ ys = rest_of xs ys (p.0, cc (p.1)) in cc (head, tail)

-- at a failure what was published stays
pub kept_back : (line : List LogEntry) (s s' : PublisherParts) (is : Bool) → IsPrefix s.shown s.taken → HasTakenUp is line s s' → HasPublished false line s s'
kept_back line s s' is shown took = record {
  book = took.same.0;
  beginning = record {
    taken = took.some;
    shown = subst (λ (l : List LogEntry). IsPrefix l s'.taken) (sym took.same.1) (prefix_trans s.shown s.taken s'.taken shown took.grows);
  };
  grows = subst (λ (l : List LogEntry). IsPrefix s.shown l) (sym took.same.1) (prefix_self s.shown);
  all = λ e. absurd (cc e);
}

-- all was taken, and then published
pub goes_out : (line : List LogEntry) (s m s' : PublisherParts) → IsPrefix s.shown s.taken → HasTakenUp true line s m
    → s'.book ≡ m.book → s'.taken ≡ m.taken → s'.shown ≡ m.taken → HasPublished true line s s'
goes_out line s m s' shown took book taken out =
    let all : m.taken ≡ line = took.all refl in record {
      book = book ∙ took.same.0;
      beginning = record {
        taken = subst (λ (l : List LogEntry). IsPrefix l line) (sym (taken ∙ all)) (prefix_self line);
        shown = subst (λ (l : List LogEntry). IsPrefix l s'.taken) (taken ∙ sym out) (prefix_self s'.taken);
      };
      grows = subst (λ (l : List LogEntry). IsPrefix s.shown l) (sym out) (prefix_trans s.shown s.taken m.taken shown took.grows);
      all = λ e. out ∙ all;
    }

pub stays_in : (line : List LogEntry) (s m s' : PublisherParts) → IsPrefix s.shown s.taken → HasTakenUp true line s m
    → s'.book ≡ m.book → s'.taken ≡ m.taken → s'.shown ≡ m.shown → HasPublished false line s s'
stays_in line s m s' shown took book taken same = kept_back line s s' false shown (record {
  same = (book ∙ took.same.0, same ∙ took.same.1);
  grows = subst (λ (l : List LogEntry). IsPrefix s.taken l) (sym taken) took.grows;
  some = subst (λ (l : List LogEntry). IsPrefix l line) (sym taken) took.some;
  all = λ e. absurd (cc e);
})

-- ---- the log of one incarnation

drop_past : {A : Type 0} (xs ys : List A) (n : ℕ) → length xs ≤ n → drop n (xs ++ ys) ≡ drop (n - length xs) ys
drop_past [] ys n le = let e : n ≡ n - 0 = omega arith in ap (λ k. drop k ys) e
drop_past (x ∷ xs) ys zero le = absurd (omega arith)
drop_past (x ∷ xs) ys (suc n) le =
    let e : n - length xs ≡ suc n - suc (length xs) = omega arith in drop_past xs ys n (omega arith) ∙ ap (λ k. drop k ys) e

drop_all : {A : Type 0} (xs : List A) (n : ℕ) → length xs ≤ n → drop n xs ≡ []
drop_all [] zero le = refl
drop_all [] (suc n) le = refl
drop_all (x ∷ xs) zero le = absurd (omega arith)
drop_all (x ∷ xs) (suc n) le = drop_all xs n (omega arith)

-- what was taken begins the line, and reaches into this log or past it: what is left of the log
-- continues it
pub left_continues : (line before log taken : List LogEntry) (known : ℕ) → IsPrefix (before ++ log) line → IsPrefix taken line → length before ≤ length taken
    → known ≡ min (length taken - length before) (length log) → IsPrefix (taken ++ drop known log) line
left_continues line before log taken known p q reaches is = elim (cases_lt (length taken) (length (before ++ log))) [
  | inl inside ↦
      let begins : IsPrefix taken (before ++ log) = prefix_shorter taken (before ++ log) line q p (omega arith) in
      let n : known ≡ length taken - length before = omega (arith, is, inside, length-append before log) in
      let whole : taken ++ drop known log ≡ before ++ log =
      ap (λ l. taken ++ l) (ap (λ k. drop k log) n ∙ sym (drop_past before log (length taken) reaches)) ∙ rest_of taken (before ++ log) begins in
      subst (λ l. IsPrefix l line) (sym whole) p
  | inr past ↦
      let none : drop known log ≡ [] = drop_all log known (omega (arith, is, past, length-append before log)) in
      subst (λ l. IsPrefix l line) (sym (ap (λ l. taken ++ l) none ∙ append-nil taken)) q
]

-- where all of the line is reached, it was all taken
pub took_up_all : (line before : List LogEntry) (s s' : PublisherParts) → before ≡ line → length before ≤ length s'.taken → HasTakenUp false line s s' → HasTakenUp true line s s'
took_up_all line before s s' whole reaches took = record {
  same = took.same;
  grows = took.grows;
  some = took.some;
  all = λ e. prefix_whole s'.taken line took.some (omega (arith, reaches, ap length whole));
}

pub took_up_none : (line : List LogEntry) (s : PublisherParts) → IsPrefix s.taken line → HasTakenUp false line s s
took_up_none line s begins = record { same = (refl, refl); grows = prefix_self s.taken; some = begins; all = λ e. absurd (cc e) }

-- some more was taken
pub took_up_more : (line rest : List LogEntry) (s m s' : PublisherParts) (is : Bool) → HasTakenUp false line s m → IsPrefix (m.taken ++ rest) line → HasTaken is rest m s' → HasTakenUp false line s s'
took_up_more line rest s m s' is took continues more = record {
  same = (more.same.0 ∙ took.same.0, more.same.1 ∙ took.same.1);
  grows = prefix_trans s.taken m.taken s'.taken took.grows more.grows;
  some = prefix_trans s'.taken (m.taken ++ rest) line more.some continues;
  all = λ e. absurd (cc e);
}

-- nothing more is published where not all was taken
pub not_published : (is : Bool) (line : List LogEntry) (s m : PublisherParts) → HasTakenUp is line s m → IsPrefix s.shown s.taken → HasPublished false line s m
not_published is line s m took shown = record {
  book = took.same.0;
  beginning = record {
    taken = took.some;
    shown = subst (λ (l : List LogEntry). IsPrefix l m.taken) (sym took.same.1) (prefix_trans s.shown s.taken m.taken shown took.grows);
  };
  grows = subst (IsPrefix s.shown) (sym took.same.1) (prefix_self s.shown);
  all = λ e. absurd (cc e);
}

-- where all was taken, all of it is published, or what was before
pub now_published : (is : Bool) (line : List LogEntry) (s m s' : PublisherParts) → HasTakenUp true line s m → IsPrefix s.shown s.taken → (s'.book ≡ m.book) × (s'.taken ≡ m.taken)
    → s'.shown ≡ (if is then m.taken else m.shown) → HasPublished is line s s'
now_published true line s m s' took shown kept new =
    let same : s'.shown ≡ s'.taken = new ∙ sym kept.1 in record {
      book = kept.0 ∙ took.same.0;
      beginning = record {
        taken = subst (λ (l : List LogEntry). IsPrefix l line) (sym kept.1) took.some;
        shown = subst (λ (l : List LogEntry). IsPrefix l s'.taken) (sym same) (prefix_self s'.taken);
      };
      grows = subst (IsPrefix s.shown) (sym new) (prefix_trans s.shown s.taken m.taken shown took.grows);
      all = λ e. new ∙ took.all refl;
    }
now_published false line s m s' took shown kept new =
    let same : s'.shown ≡ s.shown = new ∙ took.same.1 in
    let begins : IsPrefix s.shown s'.taken = subst (IsPrefix s.shown) (sym kept.1) (prefix_trans s.shown s.taken m.taken shown took.grows) in record {
      book = kept.0 ∙ took.same.0;
      beginning = record {
        taken = subst (λ (l : List LogEntry). IsPrefix l line) (sym kept.1) took.some;
        shown = subst (λ (l : List LogEntry). IsPrefix l s'.taken) (sym same) begins;
      };
      grows = subst (IsPrefix s.shown) (sym same) (prefix_self s.shown);
      all = λ e. absurd (cc e);
    }

-- what was skipped of a log
whole_rest : {A : Type 0} (n : ℕ) (xs : List A) → take (length xs - n) (drop n xs) ≡ drop n xs
whole_rest n xs = ap (λ k. take k (drop n xs)) (sym (length-drop n xs)) ∙ take-length (drop n xs)

-- one log of the line more was taken, or the first entries of it
module _ (scenario : ScenarioParts) (state : RunState) (i n known skipped : ℕ) (log : List LogEntry) (s m m' : PublisherParts) (is : Bool)
    (within : n ≤ (node_at state.nodes i).present.number) (is_log : log ≡ log_of scenario state i n)
    (left : known + length (logs_below scenario state i n) ≡ length m.taken) (is_skipped : skipped ≡ min known (length log))
    (took : HasTakenUp false (line scenario state i) s m) (more : HasTaken is (take (length log - skipped) (drop skipped log)) m m') where
  rest_taken : HasTaken is (drop skipped log) m m'
  rest_taken = subst (λ (l : List LogEntry). HasTaken is l m m') (whole_rest skipped log) more

  pub log_taken : HasTakenUp false (line scenario state i) s m'
  log_taken =
      let continues : IsPrefix (m.taken ++ drop skipped log) (line scenario state i) =
      left_continues (line scenario state i) (logs_below scenario state i n) log m.taken skipped
      (subst (λ (l : List LogEntry). IsPrefix (logs_below scenario state i n ++ l) (line scenario state i)) (sym is_log) (logs_begin_line scenario state i n within))
      took.some (omega (arith, left)) (omega (arith, left, is_skipped)) in
      took_up_more (line scenario state i) (drop skipped log) s m m' is took continues rest_taken

  pub log_left : is ≡ true → known - skipped + length (logs_below scenario state i (n + 1)) ≡ length m'.taken
  log_left all =
      let whole = ap length (rest_taken.all all) in
      let e : n + 1 ≡ suc n = omega arith in
      omega (
        arith,
        left,
        is_skipped,
        whole,
        length-append m.taken (drop skipped log),
        length-drop skipped log,
        ap length is_log,
        ap (λ k. length (logs_below scenario state i k)) e,
        length-append (logs_below scenario state i n) (log_of scenario state i n),
      )

pub at_any : {A : Type 0} (xs : List A) (i : ℕ) (d e : A) → i < length xs → get_or xs i d ≡ get_or xs i e
at_any [] i d e h = absurd (omega arith)
at_any (x ∷ xs) zero d e h = refl
at_any (x ∷ xs) (suc i) d e h = at_any xs i d e (omega arith)

pub published_less : (is : Bool) (line : List LogEntry) (s s' : PublisherParts) → HasPublished is line s s' → HasPublished false line s s'
published_less is line s s' p = record { book = p.book; beginning = p.beginning; grows = p.grows; all = λ e. absurd (cc e) }

pub all_less : (is : Bool) (world : WorldParts) (below : ℕ) (old new : List PublisherParts) → HavePublished is world below old new → HavePublished false world below old new
all_less is world below old new p = record {
  count = p.count;
  each = λ i less. published_less is (line_of world i) (publisher_at old i) (publisher_at new i) (p.each i less);
  rest = p.rest;
}

pub none_published : (is : Bool) (world : WorldParts) (publishers : List PublisherParts) → HavePublished is world 0 publishers publishers
none_published is world publishers = record { count = refl; each = λ i less. absurd (omega arith); rest = λ i le. refl }

same_or : (i j : ℕ) → (i ≡ j) ⊎ (i ≢ j)
same_or zero zero = inl refl
same_or zero (suc j) = inr (λ e. omega arith)
same_or (suc i) zero = inr (λ e. omega arith)
same_or (suc i) (suc j) = ⊎_elim (λ e. inl (ap suc e)) (λ n. inr (λ e. n (omega arith))) (same_or i j)

each_next : (is : Bool) (world : WorldParts) (at : ℕ) (old new : List PublisherParts) (s : PublisherParts) → HavePublished is world at old new → at < length new
    → HasPublished is (line_of world at) (publisher_at old at) s → (i : ℕ) → i < at + 1 → (i ≡ at) ⊎ (i ≢ at) → HasPublished is (line_of world i) (publisher_at old i) (publisher_at (set new at s) i)
each_next is world at old new s p less now i below (inl same) =
    subst (λ (k : ℕ). HasPublished is (line_of world k) (publisher_at old k) (publisher_at (set new at s) k)) (sym same)
    (subst (HasPublished is (line_of world at) (publisher_at old at)) (sym (get_or-set_same new at s no_publisher less)) now)
each_next is world at old new s p less now i below (inr other) =
    subst (HasPublished is (line_of world i) (publisher_at old i)) (sym (get_or-set_other new at i s no_publisher other)) (p.each i (omega (arith, other)))

pub next_published : (is : Bool) (world : WorldParts) (at : ℕ) (old new : List PublisherParts) (s : PublisherParts) → HavePublished is world at old new → at < length new
    → HasPublished is (line_of world at) (publisher_at old at) s → HavePublished is world (at + 1) old (set new at s)
next_published is world at old new s p less now = record {
  count = length-set new at s ∙ p.count;
  each = λ i below. each_next is world at old new s p less now i below (same_or i at);
  rest = λ i le. get_or-set_other new at i s no_publisher (λ e. omega arith) ∙ p.rest i (omega arith);
}

-- ---- one line is published, and the others are

-- a line that is published stays so
still_published : (is : Bool) (line : List LogEntry) (p : PublisherParts) → IsPublisherOf line p → p.shown ≡ line → HasPublished is line p p
still_published is line p of shown = record { book = refl; beginning = of; grows = prefix_self p.shown; all = λ e. shown }

one_published : (is : Bool) (world : WorldParts) (node : ℕ) (old : List PublisherParts) (s : PublisherParts) → ArePublishersOf world old → node < length old
    → IsShownBut (Some node) world old → HasPublished is (line_of world node) (publisher_at old node) s → HavePublished is world (length old) old (set old node s)
one_published is world node old s are less shown now = record {
  count = length-set old node s;
  each = λ i below. each_one i below (same_or i node);
  rest = λ i le. get_or-set_other old node i s no_publisher (λ e. omega arith);
}
  where
    each_one : (i : ℕ) → i < length old → (i ≡ node) ⊎ (i ≢ node) → HasPublished is (line_of world i) (publisher_at old i) (publisher_at (set old node s) i)
    each_one i below (inl same) =
        subst (λ (k : ℕ). HasPublished is (line_of world k) (publisher_at old k) (publisher_at (set old node s) k)) (sym same)
        (subst (HasPublished is (line_of world node) (publisher_at old node)) (sym (get_or-set_same old node s no_publisher less)) now)
    each_one i below (inr other) =
        let here : (publisher_at old i).shown ≡ line_of world i =
        shown i (omega (arith, are.count, below)) (λ e. let same : node ≡ i = cc e in other (sym same)) in
        subst (HasPublished is (line_of world i) (publisher_at old i)) (sym (get_or-set_other old node i s no_publisher other))
        (still_published is (line_of world i) (publisher_at old i) (are.each i below) here)

pub one_at : (is : Bool) (world : WorldParts) (i node : ℕ) (old : List PublisherParts) (d s : PublisherParts) → i ≡ node → ArePublishersOf world old → node < nodes_of world
    → IsShownBut (Some node) world old → HasPublished is (line_of world node) (get_or old i d) s → HavePublished is world (length old) old (set old i s)
one_at is world i node old d s at are below shown now =
    let same : get_or old i d ≡ publisher_at old node = at_any old i d no_publisher (omega (arith, at, are.count, below)) ∙ ap (publisher_at old) at in
    subst (λ (k : ℕ). HavePublished is world (length old) old (set old k s)) (sym at)
    (one_published is world node old s are (omega (arith, are.count, below)) shown (subst (λ (p : PublisherParts). HasPublished is (line_of world node) p s) same now))

pub publisher_of : (world : WorldParts) (publishers : List PublisherParts) (i node : ℕ) (d : PublisherParts) → i ≡ node → ArePublishersOf world publishers → node < nodes_of world
    → IsPublisherOf (line_of world node) (get_or publishers i d)
publisher_of world publishers i node d at are below =
    let same : get_or publishers i d ≡ publisher_at publishers node = at_any publishers i d no_publisher (omega (arith, at, are.count, below)) ∙ ap (publisher_at publishers) at in
    subst (IsPublisherOf (line_of world node)) (sym same) (are.each node (omega (arith, are.count, below)))

pub none_grown : (world : WorldParts) (old : List PublisherParts) → ArePublishersOf world old → IsShownBut None world old → HavePublished true world (length old) old old
none_grown world old are shown = record {
  count = refl;
  each = λ i below. still_published true (line_of world i) (publisher_at old i) (are.each i below) (shown i (omega (arith, are.count, below)) (λ e. absurd (cc e)));
  rest = λ i le. refl;
}

-- where all lines were published, all but the one that grew are
pub still_but : (grown : Option ℕ) (world world' : WorldParts) (publishers : List PublisherParts) → HaveGrown grown world world' → IsAllShown world publishers
    → IsShownBut grown world' publishers
still_but grown world world' publishers have all i below other =
    let below' : i < nodes_of world = omega (arith, below, have.longer.nodes) in
    all i below' (λ e. absurd (cc e)) ∙ sym (have.others i below' other)

pub grown_there : (grown : Option ℕ) (world world' : WorldParts) → HaveGrown grown world world' → IfSome grown (λ node. node < nodes_of world')
grown_there None world world' have = tt
grown_there (Some node) world world' have = omega (arith, have.node, have.longer.nodes)

pub all_of : (is : Bool) (world : WorldParts) (old new : List PublisherParts) → ArePublishersOf world old → HavePublished is world (length old) old new → is ≡ true → IsAllShown world new
all_of is world old new are p whole i below other = (p.each i (omega (arith, are.count, below))).all whole

-- a longer line has the same beginnings
pub still_of : (world world' : WorldParts) (publishers : List PublisherParts) → ArePublishersOf world publishers → Longer world world' → ArePublishersOf world' publishers
still_of world world' publishers are longer = record {
  count = are.count ∙ sym longer.nodes;
  each = λ i less. record {
    taken = prefix_trans (publisher_at publishers i).taken (line_of world i) (line_of world' i) (are.each i less).taken (longer.lines i (omega (arith, less, are.count)));
    shown = (are.each i less).shown;
  };
}

pub then_of : (is : Bool) (world : WorldParts) (old new : List PublisherParts) → ArePublishersOf world old → HavePublished is world (length old) old new → ArePublishersOf world new
then_of is world old new are p = record {
  count = p.count ∙ are.count;
  each = λ i less. (p.each i (omega (arith, p.count))).beginning;
}

split : (i n : ℕ) → (i < n) ⊎ (n ≤ i)
split i zero = inr (omega arith)
split zero (suc n) = inl (omega arith)
split (suc i) (suc n) = ⊎_elim (λ l. inl (omega arith)) (λ l. inr (omega arith)) (split i n)

pub out_grows : (is : Bool) (world : WorldParts) (old new : List PublisherParts) → HavePublished is world (length old) old new → (i : ℕ)
    → IsPrefix (publisher_at old i).shown (publisher_at new i).shown
out_grows is world old new p i =
    ⊎_elim (λ (l : i < length old). (p.each i l).grows) (λ (l : length old ≤ i). subst (λ (s : PublisherParts). IsPrefix (publisher_at old i).shown s.shown) (sym (p.rest i l)) (prefix_self (publisher_at old i).shown)) (split i (length old))

pub out_books : (is : Bool) (world : WorldParts) (old new : List PublisherParts) → HavePublished is world (length old) old new → (i : ℕ)
    → (publisher_at new i).book ≡ (publisher_at old i).book
out_books is world old new p i =
    ⊎_elim (λ (l : i < length old). (p.each i l).book) (λ (l : length old ≤ i). ap (λ (s : PublisherParts). s.book) (p.rest i l)) (split i (length old))

pub out_begins : (world : WorldParts) (publishers : List PublisherParts) → ArePublishersOf world publishers → (i : ℕ) → i < nodes_of world → IsPrefix (publisher_at publishers i).shown (line_of world i)
out_begins world publishers are i less =
    let at = are.each i (omega (arith, are.count)) in prefix_trans (publisher_at publishers i).shown (publisher_at publishers i).taken (line_of world i) at.shown at.taken

-- the publisher that comes next is as it was at the start
pub same_publisher : (is : Bool) (world : WorldParts) (old new : List PublisherParts) (i : ℕ) (d : PublisherParts) → ArePublishersOf world old → HavePublished is world i old new → i < length old
    → IsPublisherOf (line_of world i) (get_or new i d)
same_publisher is world old new i d are p less =
    subst (IsPublisherOf (line_of world i)) (sym (at_any new i d no_publisher (omega (arith, p.count)) ∙ p.rest i (omega arith))) (are.each i less)

-- one more publisher, and the note of it
pub first_none : AreFirst 0 [] []
first_none = record { count = refl; notes = refl; empty = λ i. (refl, refl) }

empty_more : (publishers : List PublisherParts) (s : PublisherParts) (i : ℕ) → ((i : ℕ) → ((publisher_at publishers i).shown ≡ []) × ((publisher_at publishers i).taken ≡ [])) → s.shown ≡ [] → s.taken ≡ []
    → ((publisher_at (publishers ++ s ∷ []) i).shown ≡ []) × ((publisher_at (publishers ++ s ∷ []) i).taken ≡ [])
empty_more [] s zero h shown taken = (shown, taken)
empty_more [] s (suc i) h shown taken = (refl, refl)
empty_more (x ∷ xs) s zero h shown taken = h 0
empty_more (x ∷ xs) s (suc i) h shown taken = empty_more xs s i (λ k. h (suc k)) shown taken

pub first_more : (n : ℕ) (publishers : List PublisherParts) (notes : List NoteParts) (s : PublisherParts) → AreFirst n publishers notes → s.shown ≡ [] → s.taken ≡ []
    → AreFirst (n + 1) (publishers ++ s ∷ []) (notes ++ note_of s ∷ [])
first_more n publishers notes s are shown taken = record {
  count = omega (arith, length-append publishers (s ∷ []), are.count);
  notes = ap (λ (l : List NoteParts). l ++ note_of s ∷ []) are.notes ∙ sym (map-append note_of publishers (s ∷ []));
  empty = λ i. empty_more publishers s i are.empty shown taken;
}

-- the notes of new publishers, by their places
pub note_there : (publishers : List PublisherParts) (i : ℕ) → i < length publishers → slice_get (map note_of publishers) i ≡ Some (note_of (publisher_at publishers i))
note_there [] i less = absurd (omega arith)
note_there (s ∷ publishers) zero less = refl
note_there (s ∷ publishers) (suc i) less = note_there publishers i (omega arith)

pub first_of : (world : WorldParts) (publishers : List PublisherParts) (notes : List NoteParts) → AreFirst (nodes_of world) publishers notes → ArePublishersOf world publishers
first_of world publishers notes are = record {
  count = are.count;
  each = λ i less. record {
    taken = subst (λ (l : List LogEntry). IsPrefix l (line_of world i)) (sym (are.empty i).1) (line_of world i, refl);
    shown = subst (λ (l : List LogEntry). IsPrefix l (publisher_at publishers i).taken) (sym (are.empty i).0) ((publisher_at publishers i).taken, refl);
  };
}
