-- Worked rows of verdicts.
use Rattle.std.specs.Prelude.{◌≡◌, ℕ, true, [], ◌∷◌, Some, None, refl}
use Rattle.cany_base.specs.declared.class.Class.TheVariants as class
use Rattle.cany_base.specs.declared.message.Service.TheVariants.{Ed, Tot}
use Rattle.cany_base.specs.declared.rule.Verdict.TheVariants.{Clean, Lost, Partial, Silent}
use Rattle.cany_base.specs.Scenario.{ScenarioParts}
use Rattle.cany_model.specs.declared.breaks.BreakKind.TheVariants as kind
use Rattle.cany_check.specs.declared.deciders.findings.Fate.TheVariants.{All, Nobody, Apart, Open}
use Rattle.cany_check.specs.declared.deciders.findings.Judgement.TheVariants as judged
use Rattle.cany_check.specs.declared.unused_entries.unused_entry.NoAsk.TheVariants.{From, Stopped, NeverCarried}
use Rattle.cany_check.specs.declared.unused_entries.unused_entry.NoFault.TheVariants.{Attempts, Ruled, Idle, RejectsNobody, StopsNobody}
use Rattle.cany_check.specs.declared.unused_entries.unused_entry.UnusedEntry.TheVariants as entry
use Rattle.cany_check.proofs.RowWords.{Found, all_held, asks, delivered, found_of, frame_rule, never_sent, row, send, set, settled, slot_rule, slots, tells, three}

-- ---- runs in which nothing is amiss, or more may come

-- two messages of node 0 by TOTCAN, of which the second is sent while the first is open
abbrev two_at_once : ℕ → ScenarioParts
two_at_once slots = three slots (send Tot 0 0 (1 ∷ []) ∷ send Tot 1 0 (2 ∷ []) ∷ []) []

-- that messages agree by TOTCAN is open, and nothing is amiss
abbrev tot_open : Found
tot_open = record all_held { status = 10; judgements = judged.Held ∷ judged.Held ∷ judged.Held ∷ judged.Open ∷ judged.Held ∷ judged.Held ∷ judged.Held ∷ judged.Held ∷ [] }

-- Row `one_message_no_fault`.
one_message_no_fault :
    found_of (three 5 (send Ed 0 0 (1 ∷ []) ∷ []) []) ≡ record all_held { messages = settled 1 (slots 1 2) (tells All 7 0 7 (slots 1 1)) ∷ [] }
unfolding row
one_message_no_fault = refl

-- Row `silent_omission_parts_the_order`: node 2 rejects the first message unseen.
silent_omission_parts_the_order :
    found_of (three 45 (send Tot 0 0 (10 ∷ []) ∷ send Tot 0 1 (11 ∷ []) ∷ []) (slot_rule 1 (Silent (set 4)) 0 ∷ [])) ≡ record all_held {
      broken = Some (record { kind = kind.Silent; slot = 1 });
      status = 9;
      judgements = judged.Held ∷ judged.Held ∷ judged.Held ∷ judged.Broken ∷ judged.Broken ∷ judged.Held ∷ judged.Held ∷ judged.Held ∷ [];
      messages = settled 1 (slots 1 1) (tells Apart 3 4 3 (slots 1 2)) ∷ settled 4 (slots 4 4) (tells All 7 0 7 (slots 4 5)) ∷ [];
      parting = Some (record { first = 0; second = 2; place = 0; here = delivered 0 0 1; there = delivered 1 0 5 });
    }
unfolding row
silent_omission_parts_the_order = refl

-- with the first message alone nobody parts
silent_omission_alone :
    found_of (three 45 (send Tot 0 0 (10 ∷ []) ∷ []) (slot_rule 1 (Silent (set 4)) 0 ∷ [])) ≡ record all_held {
      broken = Some (record { kind = kind.Silent; slot = 1 });
      status = 9;
      judgements = judged.Held ∷ judged.Held ∷ judged.Held ∷ judged.Broken ∷ judged.Held ∷ judged.Held ∷ judged.Held ∷ judged.Held ∷ [];
      messages = settled 1 (slots 1 1) (tells Apart 3 4 3 (slots 1 2)) ∷ [];
    }
unfolding row
silent_omission_alone = refl

-- Row `totcan_late_copy_moves_the_place`: all delivered, and all have closings ahead.
totcan_late_copy_moves_the_place :
    found_of (three 10 (send Tot 0 1 (10 ∷ []) ∷ send Tot 1 0 (11 ∷ []) ∷ []) (slot_rule 1 (Partial (set 4)) 0 ∷ [])) ≡ record tot_open {
      messages = record (settled 1 (slots 1 5) (tells Open 7 0 7 (slots 5 6))) { ahead = set 7 }
          ∷ record (settled 2 (slots 2 2) (tells Open 7 0 7 (slots 3 5))) { ahead = set 7 } ∷ [];
    }
unfolding row
totcan_late_copy_moves_the_place = refl

-- Row `second_message_is_queued`: its origin asks for it only when the first is closed.
second_message_is_queued :
    found_of (two_at_once 20) ≡ record tot_open {
      messages = record (settled 1 (slots 1 1) (tells Open 7 0 7 (slots 1 2))) { ahead = set 7 } ∷ record (never_sent (tells Open 0 7 0 None)) { queued = true } ∷ [];
    }
unfolding row
second_message_is_queued = refl

-- and then waits with it
second_message_waits :
    found_of (two_at_once 40) ≡ record tot_open {
      messages = settled 1 (slots 1 1) (tells All 7 0 7 (slots 1 2)) ∷ record (never_sent (tells Open 0 7 0 None)) { waits = set 1 } ∷ [];
    }
unfolding row
second_message_waits = refl

-- ---- nodes that stop, and one that starts again

-- Row `delivered_by_a_stopped_node`: node 0 delivered, and nobody else ever will.
delivered_by_a_stopped_node :
    found_of (three 45 (send Tot 0 0 (1 ∷ []) ∷ send Ed 20 0 (2 ∷ []) ∷ []) (slot_rule 2 (Partial (set 6)) 1 ∷ [])) ≡ record all_held {
      messages = settled 1 (slots 1 1) (tells Nobody 0 6 1 None) ∷ never_sent (tells Nobody 0 6 0 None) ∷ [];
      unused = record { place = 1; entry = entry.Send Stopped } ∷ [];
    }
unfolding row
delivered_by_a_stopped_node = refl

-- Row `order_since_a_restart`: the order of node 2 begins with its second incarnation.
order_since_a_restart :
    found_of (record (three 100 (send Tot 0 0 (10 ∷ []) ∷ send Tot 60 1 (11 ∷ []) ∷ []) (slot_rule 5 Clean 4 ∷ [])) { restarts = asks 10 2 ∷ [] }) ≡ record all_held {
      messages = settled 1 (slots 1 1) (tells All 3 0 7 (slots 1 2)) ∷ settled 61 (slots 61 61) (tells All 7 0 7 (slots 61 62)) ∷ [];
      signs = record { sign = record { node = 2; cycle = 1; carried = slots 75 76; waits = set 0 }; told = tells All 7 0 0 (slots 73 75) } ∷ [];
    }
unfolding row
order_since_a_restart = refl

-- ---- views and signs

-- Row `views_apart`: node 1 keeps node 2 in its view, and finds it silent.
views_apart :
    found_of (record (three 115 [] (slot_rule 72 (Silent (set 2)) 0 ∷ frame_rule class.Rha 1 0 1 (Silent (set 2)) 0 ∷ frame_rule class.Rha 1 2 1 (Silent (set 2)) 0 ∷ [])) { leaves = asks 71 2 ∷ [] }) ≡ record all_held {
      broken = Some (record { kind = kind.Silent; slot = 72 });
      status = 9;
      judgements = judged.Held ∷ judged.Held ∷ judged.Held ∷ judged.Held ∷ judged.Held ∷ judged.Broken ∷ judged.Held ∷ judged.Broken ∷ [];
      numbers = 1 ∷ [];
      views = record { number = 1; first = 0; members = set 3; second = 1; others = set 7 } ∷ [];
      signs = record { sign = record { node = 2; cycle = 1; carried = slots 113 114; waits = set 0 }; told = tells All 7 0 0 (slots 112 113) } ∷ [];
      accusations = record { node = 2; by = set 7; first = 112 } ∷ [];
    }
unfolding row
views_apart = refl

-- Row `sign_at_one_node`: the frame of the sign does not reach node 0.
sign_at_one_node :
    found_of (three 80 (send Tot 10 1 (1 ∷ []) ∷ []) (slot_rule 11 (Silent (set 4)) 0 ∷ slot_rule 20 Clean 2 ∷ frame_rule class.Fda 1 1 1 (Silent (set 1)) 0 ∷ [])) ≡ record all_held {
      broken = Some (record { kind = kind.Silent; slot = 11 });
      status = 9;
      judgements = judged.Held ∷ judged.Held ∷ judged.Held ∷ judged.Broken ∷ judged.Held ∷ judged.Held ∷ judged.Broken ∷ judged.Held ∷ [];
      messages = settled 11 (slots 11 11) (tells Apart 1 4 3 (slots 12 12)) ∷ [];
      signs = record { sign = record { node = 1; cycle = 1; carried = slots 75 75; waits = set 0 }; told = tells Apart 4 1 0 (slots 73 73) } ∷ [];
    }
unfolding row
sign_at_one_node = refl

-- the frame of the sign is waited with yet
sign_is_waited_with :
    found_of (three 75 [] (slot_rule 5 Clean 2 ∷ [])) ≡ record all_held {
      status = 10;
      judgements = judged.Held ∷ judged.Held ∷ judged.Held ∷ judged.Held ∷ judged.Held ∷ judged.Held ∷ judged.Open ∷ judged.Held ∷ [];
      signs = record { sign = record { node = 1; cycle = 1; carried = None; waits = set 5 }; told = tells Open 5 0 0 (slots 73 73) } ∷ [];
    }
unfolding row
sign_is_waited_with = refl

-- ---- entries that did nothing

-- Row `entries_that_did_nothing`.
entries_that_did_nothing :
    found_of (record (three 40 (send Ed 0 0 (1 ∷ []) ∷ send Ed 20 1 (2 ∷ []) ∷ send Ed 35 2 (3 ∷ []) ∷ [])
    (frame_rule class.Ed 1 0 1 Lost 0 ∷ slot_rule 1 (Partial (set 1)) 0 ∷ frame_rule class.Ed 0 0 1 Lost 0 ∷ slot_rule 9 Lost 2 ∷ slot_rule 12 Clean 2 ∷ slot_rule 13 Clean 4 ∷ []))
    { joins = asks 3 0 ∷ []; leaves = asks 15 1 ∷ []; restarts = asks 14 2 ∷ asks 30 0 ∷ [] }) ≡ record all_held {
      messages = settled 1 (slots 1 2) (tells All 1 0 7 (slots 2 2)) ∷ never_sent (tells Nobody 0 1 0 None) ∷ never_sent (tells Nobody 0 1 0 None) ∷ [];
      unused = record { place = 1; entry = entry.Send Stopped } ∷ record { place = 2; entry = entry.Send (From 51) }
          ∷ record { place = 0; entry = entry.Fault (Attempts 0) } ∷ record { place = 1; entry = entry.Fault (RejectsNobody 1) }
          ∷ record { place = 2; entry = entry.Fault (Ruled 1) } ∷ record { place = 3; entry = entry.Fault (Idle 9) }
          ∷ record { place = 4; entry = entry.Fault (StopsNobody 12) } ∷ record { place = 0; entry = entry.Join NeverCarried }
          ∷ record { place = 0; entry = entry.Leave Stopped } ∷ record { place = 1; entry = entry.Restart } ∷ [];
    }
unfolding row
entries_that_did_nothing = refl
