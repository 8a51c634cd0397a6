-- The parts of a word, and the numbers that digits write.
use Rattle.std.proofs.Common.{◌≡◌, ◌≢◌, ℕ, zero, suc, ◌<◌, ◌≤◌, ◌==◌, ◌++◌, Bool, true, false, inl, inr, List, [], ◌∷◌, length, map, get_or, codes, Option, Some, None, refl, ap, sym, ◌∙◌, arith, length-append}
use Rattle.std.specs.Prelude.{drop, take, ◌-◌, not}
use Rattle.std.proofs.lemmas.List.{length-drop, take_all}
use Rattle.std.specs.List.{slice_split}
use Rattle.std.specs.Option.{IfSome, MatchOption, is_some, option_and_then, option_map}
use Rattle.std.specs.Str.{bytes_eq}
use Rattle.std.proofs.lemmas.Bool.{cases_Bool, false≢true, eq-eqb, ne_eqb}
use Rattle.std.proofs.lemmas.Str.Pattern.{IsSplitOnceResult, split_parts}
use denote.Ref.{Bor}
use Rattle.std.proofs.lemmas.List.Splits.{length-slice_split}
use Rattle.cany_base.specs.Nodes.{Nodes, with_node}
use Rattle.cany_media.specs.MediaWords.{down_of, fault_from, fault_in, fault_of, faults_in, line_number, media_faults, node_of, parts, set_with, span_between, span_of, split_of, state_of, with_fault}
use Rattle.cany_media.specs.Plan.{FaultParts}
use Rattle.cany_command.specs.Numbers.{number_of}

-- ---- parts

no_mark : (mark : ℕ) (text : List ℕ) → ((i : ℕ) → i < length text → get_or text i 0 ≢ mark) → slice_split (λ byte. byte == mark) text ≡ text ∷ []
no_mark mark [] none = refl
no_mark mark (byte ∷ text) none =
    let here : (byte == mark) ≡ false = ne_eqb byte mark (none 0 (omega arith)) in
    rw (here, no_mark mark text (λ i below. none (suc i) (omega arith))) refl

first_mark : (mark : ℕ) (before after : List ℕ) → ((i : ℕ) → i < length before → get_or before i 0 ≢ mark)
    → slice_split (λ byte. byte == mark) (before ++ mark ∷ after) ≡ before ∷ slice_split (λ byte. byte == mark) after
first_mark mark [] after none = rw (eq-eqb mark mark refl) refl
first_mark mark (byte ∷ before) after none =
    let here : (byte == mark) ≡ false = ne_eqb byte mark (none 0 (omega arith)) in
    rw (here, first_mark mark before after (λ i below. none (suc i) (omega arith))) refl

pub cut_parts : (mark : ℕ) (text : List ℕ) (r : Option (Bor (List ℕ) × Bor (List ℕ))) → IsSplitOnceResult mark text r → mark < 128
    → MatchOption r (parts mark text ≡ text ∷ []) (λ c. parts mark text ≡ c.0.now ∷ parts mark c.1.now)
unfolding parts
cut_parts mark text None split small = no_mark mark text (split_parts mark text None split small)
cut_parts mark text (Some c) split small =
    let h = split_parts mark text (Some c) split small in
    rw h.0 (first_mark mark c.0.now c.1.now h.1)

pub cut_shorter : (mark : ℕ) (text : List ℕ) (r : Option (Bor (List ℕ) × Bor (List ℕ))) → IsSplitOnceResult mark text r → mark < 128
    → IfSome r (λ c. length c.1.now < length text)
cut_shorter mark text None split small = tt
cut_shorter mark text (Some c) split small =
    let h = split_parts mark text (Some c) split small in
    omega (arith, ap length h.0, length-append c.0.now (mark ∷ c.1.now))

-- a text has a part
some_part : (mark : ℕ) (text : List ℕ) → 1 ≤ length (parts mark text)
unfolding parts
some_part mark text = omega (arith, length-slice_split (λ byte. byte == mark) text)

pub not_two : (mark : ℕ) (text second rest first other : List ℕ) → parts mark text ≡ first ∷ parts mark second → parts mark second ≡ other ∷ parts mark rest
    → length (parts mark text) ≢ 2
not_two mark text second rest first other is more two =
    omega (arith, ap length is, ap length more, some_part mark rest)

-- ---- the parts of a fault

pub span_two : (text from to : List ℕ) → parts 45 text ≡ from ∷ to ∷ [] → span_between (number_of 6 from) (number_of 6 to) ≡ span_of (parts 45 text)
unfolding span_of
span_two text from to is = rw is refl

span_others : (ps : List (List ℕ)) → length ps ≢ 2 → None ≡ span_of ps
unfolding span_of
span_others [] other = refl
span_others (a ∷ []) other = refl
span_others (a ∷ b ∷ []) other = absurd (other (omega arith))
span_others (a ∷ b ∷ c ∷ ps) other = refl

pub span_none : (text : List ℕ) → length (parts 45 text) ≢ 2 → None ≡ span_of (parts 45 text)
span_none text other = span_others (parts 45 text) other

pub set_step : (nodes : Nodes) (text word rest : List ℕ) (named_as : Option ℕ) → parts 44 text ≡ word ∷ parts 44 rest → named_as ≡ node_of word
    → set_with nodes (parts 44 text) ≡ option_and_then (λ n. set_with (with_node n nodes) (parts 44 rest)) named_as
unfolding set_with
set_step nodes text word rest named_as is named = rw (is, named) refl

pub set_last : (nodes : Nodes) (text : List ℕ) (named_as : Option ℕ) → parts 44 text ≡ text ∷ [] → named_as ≡ node_of text
    → set_with nodes (parts 44 text) ≡ option_and_then (λ n. Some (with_node n nodes)) named_as
unfolding set_with
set_last nodes text named_as is named = rw (is, named) refl

pub state_one : (text : List ℕ) → parts 58 text ≡ text ∷ [] → down_of text ≡ state_of (parts 58 text)
unfolding state_of
state_one text is = rw is refl

pub state_two : (text word nodes : List ℕ) → parts 58 text ≡ word ∷ parts 58 nodes → parts 58 nodes ≡ nodes ∷ [] → split_of word nodes ≡ state_of (parts 58 text)
unfolding state_of
state_two text word nodes is one = rw (is, one) refl

pub state_more : (text word nodes other rest : List ℕ) → parts 58 text ≡ word ∷ parts 58 nodes → parts 58 nodes ≡ other ∷ parts 58 rest → None ≡ state_of (parts 58 text)
unfolding state_of
state_more text word nodes other rest is more = rw (is, more) (from_rest (parts 58 rest) (some_part 58 rest))
  where
    from_rest : (ps : List (List ℕ)) → 1 ≤ length ps → None ≡ state_of (word ∷ other ∷ ps)
    from_rest [] some = absurd (omega arith)
    from_rest (p ∷ ps) some = refl

pub fault_three : (word line rest span state : List ℕ) → parts 58 word ≡ line ∷ parts 58 rest → parts 58 rest ≡ span ∷ parts 58 state
    → fault_in word ≡ fault_from (line_number line) (span_of (parts 45 span)) (state_of (parts 58 state))
unfolding fault_of
fault_three word line rest span state is more = rw (is, more) refl

pub fault_one : (word : List ℕ) → parts 58 word ≡ word ∷ [] → None ≡ fault_in word
unfolding fault_of
fault_one word is = rw is refl

pub fault_two : (word line rest : List ℕ) → parts 58 word ≡ line ∷ parts 58 rest → parts 58 rest ≡ rest ∷ [] → None ≡ fault_in word
unfolding fault_of state_of
fault_two word line rest is one = rw (is, one) (no_state (line_number line) (span_of (parts 45 rest)))
  where
    no_state : (number : Option ℕ) (span : Option (ℕ × ℕ)) → None ≡ fault_from number span (state_of [])
    no_state None span = refl
    no_state (Some n) None = refl
    no_state (Some n) (Some s) = refl

-- ---- all words

-- one word more
pub faults_more : {A : Type 0} (f : A → List ℕ) (words : List A) (fault : Option FaultParts) (faults : List FaultParts) (word : A) → faults_in (map f words) ≡ Some faults
    → fault ≡ fault_in (f word) → faults_in (map f (words ++ word ∷ [])) ≡ option_map (λ g. faults ++ g ∷ []) fault
unfolding faults_in
faults_more f [] None faults word are is = rw (sym is) refl
faults_more f [] (Some g) faults word are is = let e : faults ≡ [] = cc in rw (sym is, e) refl
faults_more f (w ∷ words) fault faults word are is =
    by_first (fault_in (f w)) (faults_in (map f words)) refl refl are (λ gs others. faults_more f words fault gs word others is)
  where
    joined : (g : FaultParts) (gs : List FaultParts) (o : Option FaultParts) → with_fault (Some g) (option_map (λ h. gs ++ h ∷ []) o) ≡ option_map (λ h. (g ∷ gs) ++ h ∷ []) o
    joined g gs None = refl
    joined g gs (Some h) = refl

    by_first : (o : Option FaultParts) (os : Option (List FaultParts)) → fault_in (f w) ≡ o → faults_in (map f words) ≡ os → with_fault o os ≡ Some faults
        → ((gs : List FaultParts) → faults_in (map f words) ≡ Some gs → faults_in (map f (words ++ word ∷ [])) ≡ option_map (λ g. gs ++ g ∷ []) fault)
        → with_fault (fault_in (f w)) (faults_in (map f (words ++ word ∷ []))) ≡ option_map (λ g. faults ++ g ∷ []) fault
    by_first None os first others all more = absurd (cc)
    by_first (Some g) None first others all more = absurd (cc)
    by_first (Some g) (Some gs) first others all more =
        let e : g ∷ gs ≡ faults = cc in
        rw (first, more gs others, sym e) (joined g gs fault)

pub some_more : {A : Type 0} (f : A → List ℕ) (words : List A) (word : A) → is_some (faults_in (map f words)) ≡ true → is_some (fault_in (f word)) ≡ true
    → is_some (faults_in (map f (words ++ word ∷ []))) ≡ true
some_more f words word are is = by_both (faults_in (map f words)) (fault_in (f word)) refl refl are is (λ fs g at one. faults_more f words (Some g) fs word at one)
  where
    by_both : (os : Option (List FaultParts)) (o : Option FaultParts) → faults_in (map f words) ≡ os → fault_in (f word) ≡ o → is_some os ≡ true → is_some o ≡ true
        → ((fs : List FaultParts) (g : FaultParts) → faults_in (map f words) ≡ Some fs → Some g ≡ fault_in (f word) → faults_in (map f (words ++ word ∷ [])) ≡ Some (fs ++ g ∷ []))
        → is_some (faults_in (map f (words ++ word ∷ []))) ≡ true
    by_both None o at one are is more = absurd (false≢true are)
    by_both (Some fs) None at one are is more = absurd (false≢true is)
    by_both (Some fs) (Some g) at one are is more = rw (more fs g at (sym one)) refl

pub no_faults : {A : Type 0} (f : A → List ℕ) → faults_in (map f []) ≡ Some []
unfolding faults_in
no_faults f = refl

-- where one word names none, all do not
pub faults_none : {A : Type 0} (f : A → List ℕ) (words : List A) (i : ℕ) (word : A) → i < length words → word ≡ get_or words i word → is_some (fault_in (f word)) ≡ false
    → false ≡ is_some (faults_in (map f words))
unfolding faults_in
faults_none f [] i word below is none = absurd (omega arith)
faults_none f (w ∷ words) zero word below is none = first (fault_in (f w)) (faults_in (map f words)) (ap (λ v. is_some (fault_in (f v))) (sym is) ∙ none)
  where
    first : (o : Option FaultParts) (os : Option (List FaultParts)) → is_some o ≡ false → false ≡ is_some (with_fault o os)
    first None os h = refl
    first (Some g) os h = absurd (cc)
faults_none f (w ∷ words) (suc i) word below is none = later (fault_in (f w)) (faults_in (map f words)) (faults_none f words i word (omega arith) is none)
  where
    later : (o : Option FaultParts) (os : Option (List FaultParts)) → false ≡ is_some os → false ≡ is_some (with_fault o os)
    later None os h = refl
    later (Some g) None h = refl
    later (Some g) (Some gs) h = absurd (cc)

-- each of words that all name faults does
pub some_at : {A : Type 0} (f : A → List ℕ) (words : List A) (i : ℕ) (word : A) → i < length words → word ≡ get_or words i word → is_some (faults_in (map f words)) ≡ true
    → fault_in (f word) ≡ None → ⊥
some_at f words i word below is are none = false≢true (faults_none f words i word below is (ap is_some none) ∙ are)

-- the first of some words
pub media_first : {A : Type 0} (f : A → List ℕ) (words : List A) (word : A) → word ≡ get_or words 0 word → 1 ≤ length words → bytes_eq (f word) (codes "media") ≡ true
    → media_faults (map f words) ≡ faults_in (map f (drop 1 words))
unfolding media_faults
media_first f [] word is some same = absurd (omega arith)
media_first f (w ∷ words) word is some same = let e : bytes_eq (f w) (codes "media") ≡ true = ap (λ v. bytes_eq (f v) (codes "media")) (sym is) ∙ same in rw e refl

pub other_first : {A : Type 0} (f : A → List ℕ) (words : List A) (word : A) → word ≡ get_or words 0 word → bytes_eq (f word) (codes "media") ≡ false
    → false ≡ is_some (media_faults (map f words))
unfolding media_faults
other_first f [] word is other = refl
other_first f (w ∷ words) word is other = let e : bytes_eq (f w) (codes "media") ≡ false = ap (λ v. bytes_eq (f v) (codes "media")) (sym is) ∙ other in rw e refl

pub no_words : {A : Type 0} (f : A → List ℕ) (words : List A) → length words ≡ 0 → false ≡ is_some (media_faults (map f words))
unfolding media_faults
no_words f [] none = refl
no_words f (w ∷ words) none = absurd (omega arith)

-- words of the command have its word first
pub media_rest : {A : Type 0} (f : A → List ℕ) (words : List A) → is_some (media_faults (map f words)) ≡ true → media_faults (map f words) ≡ faults_in (map f (drop 1 words))
unfolding media_faults
media_rest f [] are = absurd (false≢true are)
media_rest f (w ∷ words) are = elim (cases_Bool (bytes_eq (f w) (codes "media"))) [
  | inl same ↦ rw same refl
  | inr other ↦ absurd (false≢true (rw other at are))
]

pub all_but_first : {A : Type 0} (words : List A) → take (length words - 1) (drop 1 words) ≡ drop 1 words
all_but_first words = take_all (length words - 1) (drop 1 words) (omega (arith, length-drop 1 words))

pub not_true : (b : Bool) → not b ≡ true → b ≡ false
not_true true h = cc
not_true false h = refl

pub not_false : (b : Bool) → not b ≡ false → b ≡ true
not_false true h = refl
not_false false h = cc
