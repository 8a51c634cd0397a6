-- The line of an incarnation of a node, by whether it stopped.
use Rattle.std.proofs.Common.{◌≡◌, ℕ, ◌==◌, Bool, true, false, List, [], ◌∷◌, ◌++◌, Option, Some, None, refl, ap}
use Rattle.std.specs.Prelude.{if◌then◌else◌, codes, decimal}
use Rattle.cany_log.specs.Fields.{number_if_any, stop_texts}
use Rattle.cany_model.specs.declared.span.Span.{Span}
use Rattle.cany_text.specs.ReportLines.{line_of, node_line}

-- nothing of the first incarnation, and two fields of a later one
later_fields : (b : Bool) (inc since : ℕ) (stop rest : List (List ℕ))
    → ((if b then [] else codes "inc" ∷ decimal inc ∷ codes "since" ∷ decimal since ∷ []) ++ stop) ++ rest
    ≡ number_if_any (codes "inc") (if b then None else Some inc) ++ (number_if_any (codes "since") (if b then None else Some since) ++ (stop ++ rest))
later_fields true inc since stop rest = refl
later_fields false inc since stop rest = refl

correct_line : (i inc : ℕ) (span : Span) (number since : Option ℕ) → number ≡ (if inc == 0 then None else Some inc)
    → since ≡ (if inc == 0 then None else Some span.since) → span.stopped ≡ None
    → node_line i inc span ≡ line_of (
    codes "node" ∷ decimal i ∷ number_if_any (codes "inc") number ++ (number_if_any (codes "since") since
    ++ (codes "correct" ∷ codes "read" ∷ decimal span.read ∷ [])))
unfolding node_line
correct_line i inc span number since number_is since_is runs =
    rw (number_is, since_is, runs)
    (ap (λ fields. line_of (codes "node" ∷ decimal i ∷ fields)) (later_fields (inc == 0) inc span.since (codes "correct" ∷ []) (codes "read" ∷ decimal span.read ∷ [])))

stopped_line : (i inc : ℕ) (span : Span) (number since : Option ℕ) (slot : ℕ) → number ≡ (if inc == 0 then None else Some inc)
    → since ≡ (if inc == 0 then None else Some span.since) → span.stopped ≡ Some slot
    → node_line i inc span ≡ line_of (
    codes "node" ∷ decimal i ∷ number_if_any (codes "inc") number ++ (number_if_any (codes "since") since
    ++ (codes "stopped" ∷ decimal slot ∷ codes "read" ∷ decimal span.read ∷ [])))
unfolding node_line
stopped_line i inc span number since slot number_is since_is stopped =
    rw (number_is, since_is, stopped)
    (ap (λ fields. line_of (codes "node" ∷ decimal i ∷ fields))
    (later_fields (inc == 0) inc span.since (codes "stopped" ∷ decimal slot ∷ []) (codes "read" ∷ decimal span.read ∷ [])))

by_stop : (i inc : ℕ) (span : Span) (number since stopped : Option ℕ) → number ≡ (if inc == 0 then None else Some inc)
    → since ≡ (if inc == 0 then None else Some span.since) → span.stopped ≡ stopped
    → node_line i inc span ≡ line_of (
    codes "node" ∷ decimal i ∷ number_if_any (codes "inc") number ++ (number_if_any (codes "since") since
    ++ (stop_texts stopped ++ (codes "read" ∷ decimal span.read ∷ []))))
by_stop i inc span number since None number_is since_is runs = correct_line i inc span number since number_is since_is runs
by_stop i inc span number since (Some slot) number_is since_is stopped = stopped_line i inc span number since slot number_is since_is stopped

-- the line by its pieces
pub node_line-is : (i inc : ℕ) (span : Span) (number since : Option ℕ) (stop : List (List ℕ)) → number ≡ (if inc == 0 then None else Some inc)
    → since ≡ (if inc == 0 then None else Some span.since) → stop ≡ stop_texts span.stopped
    → node_line i inc span ≡ line_of (
    codes "node" ∷ decimal i ∷ number_if_any (codes "inc") number ++ (number_if_any (codes "since") since
    ++ (stop ++ (codes "read" ∷ decimal span.read ∷ []))))
node_line-is i inc span number since stop number_is since_is stop_is =
    rw stop_is (by_stop i inc span number since span.stopped number_is since_is refl)
