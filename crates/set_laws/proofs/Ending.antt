-- What the exchanges and the ends of calls tell, and the law.
use Rattle.std.proofs.Common.{ℕ, suc, ◌-◌, ◌≡◌, ◌≢◌, ◌≤◌, ◌<◌, ◌⊎◌, ◌∙◌, Bool, true, false, List, [], Option, Some, None, is_some, sym, ap, subst, refl, inl, inr, ⊎_elim, arith}
use Rattle.std.specs.Prelude.{slice_index}
use Rattle.norm_lang.specs.declared.registers.Reference.{Reference}
use Rattle.norm_lang.specs.Local.{remainder}
use Rattle.norm_lang.specs.Shipped.{set_text}
use Rattle.source_machine.specs.declared.event.SourceEvent.{SourceEvent}
use Rattle.source_machine.specs.declared.event.SourceEvent.TheVariants.{Begin, Access, Restart, GiveUp}
use Rattle.norm_lang.specs.declared.reply.SourceReply.TheVariants as replies
use Rattle.source_machine.specs.declared.state.NamedNode.{NamedNode}
use Rattle.source_machine.specs.declared.state.SourceCaller.{SourceCaller}
use Rattle.source_machine.specs.State.{idle_caller}
use Rattle.source_machine.specs.Step.{performed, caller_turn, give_up_reply}
use Rattle.source_machine.specs.Run.{mover, is_enabled_by}
use Rattle.source_machine.specs.MethodRuns.{MethodRun, put}
use Rattle.source_machine.specs.Proper.{has}
use Rattle.source_machine.proofs.Places.{put_same}
use Rattle.source_histories.specs.declared.deed.Notes.{Notes}
use Rattle.source_histories.specs.Books.{accesses, no_notes, notes_at, noted_of, begins_run, Started, run_again, Log, logged}
use Rattle.source_histories.specs.Answers.{gives_up, reply_of}
use Rattle.source_histories.proofs.Dealing.{Times, ticked, Phase, Resting, Working, Landed, Begins, Stays, Renews, Ends, moved, said_by, phase_runs, Open, Deal, begins, starts_over, lands, ends, settles, pays, quits}
use Rattle.source_histories.proofs.Recording.{Dealt, books_answer}
use Rattle.source_histories.proofs.Keeping.{deeds_stand}
use Rattle.set_source.specs.Places.{Kind, Insert, Remove, Contains, op_of, first_hand, Place, Idle, Pick, First, Second, Key, Snip, New, PutKey, PutNext, Link, Mark, Unlink, Missed, There, unmarked, Load, shown, start_of, with_hand, replying}
use Rattle.set_source.specs.Relation.{to, Cell, Shared, memory_of, Fine, Onward, At, Stands, Goes}
use Rattle.set_source.proofs.Changes.{with_cell, Private, with_snip, Marks, with_mark, Links, with_link}
use Rattle.set_source.proofs.Turns.{is_unlink}
use Rattle.set_source.proofs.Linking.{far_new}
use Rattle.set_source.proofs.Orders.{Before}
use Rattle.set_source.proofs.Orders as orders
use Rattle.set_source.proofs.Stable.{stable}
use Rattle.set_source.proofs.Events.{keeps_open, first_shared, first_is, first_fine, first_stands, first_leads, first_inner}
use Rattle.set_source.proofs.Ways.{Way, Keeps}
use Rattle.set_source.proofs.Ways.{picks, first_none, first_some, second_marked, second_plain, key_less, key_same, key_none, key_more, snip_none, snip_more, snip_no, makes, puts_key, puts_next, links, links_not, marks, marks_not, unlinks, unlinks_not, misses, is_there, stops, starts, renews}
use Rattle.set_laws.specs.Sets.{with_key, without_key, set_step, with_load, set_rules, SetAnswers, SetDeedsStand}
use Rattle.set_laws.proofs.Sorting.{keys, homes, Sorted, home_inner, home_sentinel, sorted_private, sorted_mark, sorted_snip, sorted_link, sentinels_apart, SetOf, live_plain, set_snip, set_private, set_mark, set_link}
use Rattle.set_laws.proofs.Searching.{RightOf, Facts, within_inner, seen_key, onward_key, left_kept, right_kept, right_ahead, facts_kept, missing_now}
use Rattle.source_machine.specs.declared.state.Memory.{Memory}
use Rattle.set_laws.proofs.Answering.{IsWorking, working_kept, Class, Rests, Unlinks, Works, class_of, FitsClass, Fits, Told, ends_log, stops_log, deed, insert_step, insert_found, remove_step, remove_missed, search_found, search_missed, ended_noted, Here, walked, node_of, told_first_none, told_first_some, told_second_plain, told_key_less, told_key_same, told_key_none, told_key_more, told_snip_none, told_snip_more}

-- a reference to the own node leads to the key sought, if the node has it
key_at : (s : Shared) (n key : ℕ) (nodes : List NamedNode) (x : Cell) (r : Reference) → r ≡ to n → x.key ≡ key → keys (with_cell s nodes n x) r.node ≡ key
key_at s n key nodes x r is e = ap (λ (y : Reference). (put s.cell n x y.node).key) is ∙ (ap (λ (z : Cell). z.key) (put_same s.cell n x) ∙ e)

pub told_makes : (b c o name n : ℕ) (place place' : Place) (s : Shared) (set : List ℕ) (nodes : List NamedNode) (x : Cell) (q q' : Load) (T : Times (List ℕ)) (notes : Notes) (phase : Phase) (call : Started) → Here b s set T
    → Private b s c nodes n x → class_of place' ≡ Works Insert → q'.args ≡ q.args → q'.replies ≡ q.replies → q'.hand.n0 ≡ slice_index q.args 0
    → noted_of set_rules (Access c name) T.time notes (shown place q).running (shown place' q') ≡ record { notes = notes; deed = None }
    → ((log : Log) → logged (Access c name) T.time (shown place q).running (shown place' q') log ≡ log) → IsWorking T phase 0 (slice_index q.args 0) call
    → Facts b (with_cell s nodes n x) (ticked T (accesses (Access c name) (shown place q).running) set) notes c call place' q'.hand → Told b (Access c name) c (with_cell s nodes n x) place q place' q' T notes phase
told_makes b c o name n place place' s set nodes x q q' T notes phase call here p class args said n0 tells logs w facts =
    walked b c name s (with_cell s nodes n x) set place place' Insert q q' T notes notes phase call here.now (sorted_private b s c nodes n x p here.sorted) (set_private b s c nodes n x set p here.holds) class args said n0 tells logs w facts

pub told_links : (b c o name x0 n : ℕ) (s : Shared) (set : List ℕ) (q : Load) (T : Times (List ℕ)) (notes : Notes) (phase : Phase) → Here b s set T → At b s c o Link q.hand
    → Links b s c x0 n q.hand.r1 → q.hand.r0 ≡ to x0 → q.hand.r4 ≡ to n → Fits b s T notes c Link q phase
    → Told b (Access c name) c (with_link s x0 n) Link q Idle (replying (replies.Number 1) q) T notes phase
told_links b c o name x0 n s set q T notes phase here at p is0 is4 (call, w, same, facts) =
    let arg = q.hand.n0 in
    let e0 : q.hand.r0.node ≡ x0 = node_of q.hand.r0 x0 is0 in
    let key : keys s n ≡ q.hand.n0 = ap (keys s) (sym (node_of q.hand.r4 n is4)) ∙ facts.2 in
    let left : (homes b (keys s) x0 ≡ remainder q.hand.n0 b) × ((x0 ≤ b) ⊎ (keys s x0 < q.hand.n0)) =
    subst (λ i. (homes b (keys s) i ≡ remainder q.hand.n0 b) × ((i ≤ b) ⊎ (keys s i < q.hand.n0))) e0 facts.0 in
    let live = live_plain b s x0 here.fine p.public0 (ap (λ (r : Reference). r.marked) p.next0 ∙ p.plain) in
    let far : b < n = far_new b c s x0 n q.hand.r1 p in
    let home : homes b (keys s) n ≡ remainder q.hand.n0 b = home_inner b (keys s n) n far ∙ ap (λ i. remainder i b) key in
    let missing : has q.hand.n0 set ≡ false = missing_now b s set x0 q.hand.n0 here.fine here.sorted here.holds live left.0 left.1
    (subst (λ (r : Reference). (r.node ≡ 0) ⊎ (q.hand.n0 < keys s r.node)) (sym p.next0) (right_ahead b s q.hand.r1 q.hand.n0 facts.1)) in
    let fits : orders.Fits b (homes b (keys s)) (keys s) x0 n q.hand.r1 = record {
      past = record { together = left.0 ∙ sym home; inner = far; less = ⊎_elim (λ (le : x0 ≤ b). inl le) (λ (lt : keys s x0 < q.hand.n0). inr (omega (arith, lt, key))) left.1 };
      ahead = ahead at.1 facts.1 home key;
      apart = sentinels_apart b (keys s);
    } in
    record {
      set' = with_key (s.cell n).key set;
      noted = record { notes = notes; deed = Some (deed c 0 arg 1 T.time) };
      move = Ends (replies.Number 1);
      phase' = Resting;
      tells = ended_noted c T.time 0 arg notes q 1;
      said = refl;
      logs = λ log. ends_log c name T.time (shown Link q).running q (replies.Number 1) log refl;
      sorted = sorted_link b c s x0 n q.hand.r1 p fits here.sorted;
      holds = set_link b c s x0 n q.hand.r1 set p here.holds;
      deal = subst (λ (ph : Phase). Deal (List ℕ) set_step T c (Some c) (with_key (s.cell n).key set) ph (Some (deed c 0 arg 1 T.time)) (Ends (replies.Number 1)) Resting) (sym w.0)
          (ends call (deed c 0 arg 1 T.time) (replies.Number 1) refl refl (sym w.1) (same ∙ sym w.2) refl
          (ap (set_step (deed c 0 arg 1 T.time)) (sym here.now) ∙ (insert_step arg T.time c set missing ∙ ap (λ i. Some (with_key i set)) (sym key))) refl);
      fits = refl;
    } where
      ahead : Onward b s o q.hand.r1 → RightOf b s q.hand.r1 q.hand.n0 → homes b (keys s) n ≡ remainder q.hand.n0 b → keys s n ≡ q.hand.n0 → (q.hand.r1.node ≡ 0) ⊎ Before b (homes b (keys s)) (keys s) n q.hand.r1.node
      ahead onward (inl null) home key = inl null
      ahead (inl null) (inr k) home key = inl (ap (λ (r : Reference). r.node) null)
      ahead (inr within) (inr k) home key = inr (record { together = home ∙ sym k.0; inner = within_inner b s o q.hand.r1 within; less = inr (let lt = k.1 in omega (arith, lt, key)) })

pub told_marks : (b c o name x1 : ℕ) (s : Shared) (set : List ℕ) (q : Load) (T : Times (List ℕ)) (notes : Notes) (phase : Phase) → Here b s set T
    → Marks b s x1 q.hand.r2 → q.hand.r1 ≡ to x1 → Fits b s T notes c Mark q phase
    → Told b (Access c name) c (with_mark s x1 q.hand.r2) Mark q Unlink q T notes phase
told_marks b c o name x1 s set q T notes phase here p is (call, w, same, facts) =
    let arg = q.hand.n0 in
    let key : (s.cell x1).key ≡ arg = ap (keys s) (sym (node_of q.hand.r1 x1 is)) ∙ facts in
    let there : has arg set ≡ true = ap (λ i. has i set) (sym key) ∙ here.holds.all (s.cell x1).key (x1, p.public1, p.inner, ap (λ (r : Reference). r.marked) p.next1 ∙ p.plain, refl) in
    record {
      set' = without_key (s.cell x1).key set;
      noted = record { notes = notes; deed = Some (deed c 1 arg 1 T.time) };
      move = Stays;
      phase' = Landed call (deed c 1 arg 1 T.time);
      tells = refl;
      said = refl;
      logs = λ log. refl;
      sorted = sorted_mark b s x1 q.hand.r2 p here.sorted;
      holds = set_mark b s x1 q.hand.r2 set p here.sorted here.holds;
      deal = subst (λ (ph : Phase). Deal (List ℕ) set_step T c (Some c) (without_key (s.cell x1).key set) ph (Some (deed c 1 arg 1 T.time)) Stays (Landed call (deed c 1 arg 1 T.time))) (sym w.0)
          (lands call (deed c 1 arg 1 T.time) refl refl (sym w.1) (same ∙ sym w.2) refl
          (ap (set_step (deed c 1 arg 1 T.time)) (sym here.now) ∙ (remove_step arg T.time c set there ∙ ap (λ i. Some (without_key i set)) (sym key))));
      fits = (call, deed c 1 arg 1 T.time, refl, refl);
    }

-- the removal has its deed, and replies 1
pub told_pays : (b c name : ℕ) (s s' : Shared) (set : List ℕ) (q : Load) (T : Times (List ℕ)) (notes : Notes) (phase : Phase) → set ≡ T.past T.time → Sorted b s' → SetOf b s' set → Fits b s T notes c Unlink q phase
    → Told b (Access c name) c s' Unlink q Idle (replying (replies.Number 1) q) T notes phase
told_pays b c name s s' set q T notes phase now sorted holds (call, d, k, r) = record {
  set' = set;
  noted = record { notes = notes; deed = None };
  move = Ends (replies.Number 1);
  phase' = Resting;
  tells = refl;
  said = refl;
  logs = λ log. ends_log c name T.time (shown Unlink q).running q (replies.Number 1) log refl;
  sorted = sorted;
  holds = holds;
  deal = subst (λ (ph : Phase). Deal (List ℕ) set_step T c (Some c) set ph None (Ends (replies.Number 1)) Resting) (sym k) (pays call d (replies.Number 1) now (sym (ap reply_of r)));
  fits = refl;
}

-- a call ends whose moment was an earlier event
settled : (b c name op reply moment : ℕ) (place : Place) (s : Shared) (set : List ℕ) (q : Load) (T : Times (List ℕ)) (notes : Notes) (phase : Phase) (call : Started) → Here b s set T
    → noted_of set_rules (Access c name) T.time notes (shown place q).running (shown Idle (replying (replies.Number reply) q)) ≡ record { notes = notes; deed = Some (deed c op q.hand.n0 reply moment) }
    → IsWorking T phase op (slice_index q.args 0) call → q.hand.n0 ≡ slice_index q.args 0 → Open (List ℕ) T c call moment → set_step (deed c op q.hand.n0 reply moment) (T.past moment) ≡ Some (T.past moment)
    → begins_run (Access c name) (shown place q).running None ≡ false → Told b (Access c name) c s place q Idle (replying (replies.Number reply) q) T notes phase
settled b c name op reply moment place s set q T notes phase call here tells w same open_ is ends_run = record {
  set' = set;
  noted = record { notes = notes; deed = Some (deed c op q.hand.n0 reply moment) };
  move = Ends (replies.Number reply);
  phase' = Resting;
  tells = tells;
  said = refl;
  logs = λ log. ends_log c name T.time (shown place q).running q (replies.Number reply) log ends_run;
  sorted = here.sorted;
  holds = here.holds;
  deal = subst (λ (ph : Phase). Deal (List ℕ) set_step T c (accesses (Access c name) (shown place q).running) set ph (Some (deed c op q.hand.n0 reply moment)) (Ends (replies.Number reply)) Resting) (sym w.0)
      (settles call (deed c op q.hand.n0 reply moment) (replies.Number reply) refl (sym w.1) (same ∙ sym w.2) open_ is here.now refl);
  fits = refl;
}

pub told_misses : (b c name : ℕ) (k : Kind) (s : Shared) (set : List ℕ) (q : Load) (T : Times (List ℕ)) (notes : Notes) (phase : Phase) → Here b s set T → Fits b s T notes c (Missed k) q phase
    → Told b (Access c name) c s (Missed k) q Idle (replying (replies.Number 0) q) T notes phase
told_misses b c name Insert s set q T notes phase here (call, w, same, facts) =
    settled b c name 0 0 notes.load (Missed Insert) s set q T notes phase call here (ended_noted c T.time 0 q.hand.n0 notes q 0) w same facts.0
    (insert_found q.hand.n0 notes.load c (T.past notes.load) facts.1) refl
told_misses b c name Remove s set q T notes phase here (call, w, same, facts) =
    settled b c name 1 0 notes.gap (Missed Remove) s set q T notes phase call here (ended_noted c T.time 1 q.hand.n0 notes q 0) w same facts.0
    (remove_missed q.hand.n0 notes.gap c (T.past notes.gap) facts.1) refl
told_misses b c name Contains s set q T notes phase here (call, w, same, facts) =
    settled b c name 2 0 notes.gap (Missed Contains) s set q T notes phase call here (ended_noted c T.time 2 q.hand.n0 notes q 0) w same facts.0
    (search_missed q.hand.n0 notes.gap c (T.past notes.gap) facts.1) refl

pub told_there : (b c name : ℕ) (s : Shared) (set : List ℕ) (q : Load) (T : Times (List ℕ)) (notes : Notes) (phase : Phase) → Here b s set T → Fits b s T notes c There q phase
    → Told b (Access c name) c s There q Idle (replying (replies.Number 1) q) T notes phase
told_there b c name s set q T notes phase here (call, w, same, facts) =
    settled b c name 2 1 notes.load There s set q T notes phase call here (ended_noted c T.time 2 q.hand.n0 notes q 1) w same facts.0
    (search_found q.hand.n0 notes.load c (T.past notes.load) facts.1) refl

pub told_stops : (b c : ℕ) (why : Option ℕ) (s : Shared) (set : List ℕ) (q : Load) (T : Times (List ℕ)) (notes : Notes) (phase : Phase) → Here b s set T → Fits b s T notes c New q phase
    → Told b (GiveUp c why) c s New q Idle (replying (give_up_reply why) q) T notes phase
told_stops b c why s set q T notes phase here (call, w, same, facts) = record {
  set' = set;
  noted = record { notes = notes; deed = None };
  move = Ends (give_up_reply why);
  phase' = Resting;
  tells = refl;
  said = refl;
  logs = λ log. stops_log c T.time why (shown New q).running q (give_up_reply why) log;
  sorted = here.sorted;
  holds = here.holds;
  deal = subst (λ (ph : Phase). Deal (List ℕ) set_step T c None set ph None (Ends (give_up_reply why)) Resting) (sym w.0) (quits call (give_up_reply why) here.now (gave why));
  fits = refl;
} where
  gave : (x : Option ℕ) → gives_up (give_up_reply x) ≡ true
  gave None = refl
  gave (Some p) = refl

pub told_starts : (b c : ℕ) (k : Kind) (args : List ℕ) (s : Shared) (set : List ℕ) (q : Load) (T : Times (List ℕ)) (notes : Notes) (phase : Phase) → Here b s set T → phase ≡ Resting
    → Told b (Begin c (op_of k) args) c s Idle q (Pick k) (record q { args = args; hand = first_hand args }) T notes phase
told_starts b c k args s set q T notes phase here e =
    let call : Started = record { op = op_of k; arg = slice_index args 0; begun = T.time; since = T.time } in
    record {
      set' = set;
      noted = record { notes = notes_at T.time; deed = None };
      move = Begins call;
      phase' = Working call;
      tells = refl;
      said = refl;
      logs = λ log. refl;
      sorted = here.sorted;
      holds = here.holds;
      deal = subst (λ (ph : Phase). Deal (List ℕ) set_step T c None set ph None (Begins call) (Working call)) (sym e) (begins call refl refl here.now);
      fits = (call, (refl, refl, refl, omega arith), refl, tt);
    }

-- a call's generator begins again, by an exchange that failed or by a restart
again : (b : ℕ) (event : SourceEvent) (c : ℕ) (place : Place) (k : Kind) (s : Shared) (set : List ℕ) (q : Load) (T : Times (List ℕ)) (notes : Notes) (phase : Phase) (call : Started) → Here b s set T
    → noted_of set_rules event T.time notes (shown place q).running (shown (Pick k) (with_hand q (first_hand q.args))) ≡ record { notes = notes; deed = None }
    → ((log : Log) → logged event T.time (shown place q).running (shown (Pick k) (with_hand q (first_hand q.args))) log ≡ moved T.time Renews log)
    → IsWorking T phase (op_of k) (slice_index q.args 0) call → Told b event c s place q (Pick k) (with_hand q (first_hand q.args)) T notes phase
again b event c place k s set q T notes phase call here tells logs w = record {
  set' = set;
  noted = record { notes = notes; deed = None };
  move = Renews;
  phase' = Working (run_again T.time call);
  tells = tells;
  said = refl;
  logs = logs;
  sorted = here.sorted;
  holds = here.holds;
  deal = subst (λ (p : Phase). Deal (List ℕ) set_step T c (accesses event (shown place q).running) set p None Renews (Working (run_again T.time call))) (sym w.0) (starts_over call here.now);
  fits = (run_again T.time call, (refl, w.1, w.2, omega arith), refl, tt);
}

restarted : (b c : ℕ) (place : Place) (k : Kind) (s : Shared) (set : List ℕ) (q : Load) (T : Times (List ℕ)) (notes : Notes) (phase : Phase) (call : Started) → Here b s set T → IsWorking T phase (op_of k) (slice_index q.args 0) call
    → Told b (Restart c) c s place q (Pick k) (with_hand q (first_hand q.args)) T notes phase
restarted b c place k s set q T notes phase call here w = again b (Restart c) c place k s set q T notes phase call here refl (λ log. refl) w

pub told_renews : (b c : ℕ) (place : Place) (s : Shared) (set : List ℕ) (q : Load) (T : Times (List ℕ)) (notes : Notes) (phase : Phase) → Here b s set T → is_unlink place ≡ false → class_of place ≢ Rests → Fits b s T notes c place q phase
    → Told b (Restart c) c s place q (start_of place) (with_hand q (first_hand q.args)) T notes phase
told_renews b c Idle s set q T notes phase here e ne k = absurd (ne refl)
told_renews b c (Pick k) s set q T notes phase here e ne (call, w, n, facts) = restarted b c (Pick k) k s set q T notes phase call here w
told_renews b c (First k) s set q T notes phase here e ne (call, w, n, facts) = restarted b c (First k) k s set q T notes phase call here w
told_renews b c (Second k) s set q T notes phase here e ne (call, w, n, facts) = restarted b c (Second k) k s set q T notes phase call here w
told_renews b c (Key k) s set q T notes phase here e ne (call, w, n, facts) = restarted b c (Key k) k s set q T notes phase call here w
told_renews b c (Snip k) s set q T notes phase here e ne (call, w, n, facts) = restarted b c (Snip k) k s set q T notes phase call here w
told_renews b c New s set q T notes phase here e ne (call, w, n, facts) = restarted b c New Insert s set q T notes phase call here w
told_renews b c PutKey s set q T notes phase here e ne (call, w, n, facts) = restarted b c PutKey Insert s set q T notes phase call here w
told_renews b c PutNext s set q T notes phase here e ne (call, w, n, facts) = restarted b c PutNext Insert s set q T notes phase call here w
told_renews b c Link s set q T notes phase here e ne (call, w, n, facts) = restarted b c Link Insert s set q T notes phase call here w
told_renews b c Mark s set q T notes phase here e ne (call, w, n, facts) = restarted b c Mark Remove s set q T notes phase call here w
told_renews b c Unlink s set q T notes phase here e ne k = absurd (let z : true ≡ false = e in cc)
told_renews b c (Missed k) s set q T notes phase here e ne (call, w, n, facts) = restarted b c (Missed k) k s set q T notes phase call here w
told_renews b c There s set q T notes phase here e ne (call, w, n, facts) = restarted b c There Contains s set q T notes phase call here w

-- what an event tells, by how it leads
told : (b c o o' : ℕ) (s : Shared) (set : List ℕ) (q : Load) (T : Times (List ℕ)) (notes : Notes) (phase : Phase) (event : SourceEvent) (place : Place) (s' : Shared) (place' : Place) (q' : Load) → Here b s set T
    → (event ≡ Restart c → class_of place ≢ Rests) → Way b c s q event place s' place' q' → At b s c o place q.hand → At b s' c o' place' q'.hand → Fine b s' → Goes c s s' → Fits b s T notes c place q phase
    → Told b event c s' place q place' q' T notes phase
told b c o o' s set q T notes phase event place s' place' q' here open_ (picks name k i lt e) at at' f' g (call, w, n, facts) =
    let home : suc i - 1 ≡ i = omega arith in
    walked b c name s s set (Pick k) (First k) k q (with_hand q (record q.hand { r0 = to (suc i) })) T notes notes phase call here.now here.sorted here.holds refl refl refl n refl (λ log. refl) w
    (home_sentinel b (keys s (suc i)) (suc i) lt ∙ (home ∙ e), inl lt)
told b c o o' s set q T notes phase event place s' place' q' here open_ (first_none name k nx) at at' f' g k' = told_first_none b c o name k s set q T notes phase here at nx k'
told b c o o' s set q T notes phase event place s' place' q' here open_ (first_some name k m nx) at at' f' g k' = told_first_some b c o o' name k m s set q T notes phase here at at'.1 nx k'
told b c o o' s set q T notes phase event place s' place' q' here open_ (second_marked name k m is mark) at at' f' g (call, w, n, facts) =
    walked b c name s s set (Second k) (Snip k) k q (with_hand q (record q.hand { r2 = (s.cell m).next })) T notes (with_load T.time notes) phase call here.now here.sorted here.holds refl refl refl n refl (λ log. refl) w (facts.0, facts.1)
told b c o o' s set q T notes phase event place s' place' q' here open_ (second_plain name k m is plain) at at' f' g k' = told_second_plain b c o name k m s set q T notes phase here at is plain k'
told b c o o' s set q T notes phase event place s' place' q' here open_ (key_less name k m is less) at at' f' g k' = told_key_less b c name k m s set q T notes phase here is less k'
told b c o o' s set q T notes phase event place s' place' q' here open_ (key_same name k m is same) at at' f' g k' = told_key_same b c name k m s set q T notes phase here is same k'
told b c o o' s set q T notes phase event place s' place' q' here open_ (key_none name k m is less same null) at at' f' g k' = told_key_none b c name k m s set q T notes phase here is less same null k'
told b c o o' s set q T notes phase event place s' place' q' here open_ (key_more name k m is less same) at at' f' g k' = told_key_more b c o' name k m s set q T notes phase here at'.1 is less same k'
told b c o o' s set q T notes phase event place s' place' q' here open_ (snip_none name k x0 x1 p is null) at at' f' g k' = told_snip_none b c o name k x0 x1 s set q T notes phase here at p f' g is null k'
told b c o o' s set q T notes phase event place s' place' q' here open_ (snip_more name k x0 x1 p is) at at' f' g k' = told_snip_more b c o o' name k x0 x1 s set q T notes phase here at at'.1 p f' g is k'
told b c o o' s set q T notes phase event place s' place' q' here open_ (snip_no name k) at at' f' g (call, w, n, facts) =
    walked b c name s s set (Snip k) (Pick k) k q (with_hand q (record q.hand { r3 = unmarked q.hand.r2 })) T notes notes phase call here.now here.sorted here.holds refl refl refl n refl (λ log. refl) w tt
told b c o o' s set q T notes phase event place s' place' q' here open_ (makes name nodes x p) at at' f' g (call, w, n, facts) =
    told_makes b c o name name New PutKey s set nodes x q (with_hand q (record q.hand { r4 = to name })) T notes phase call here p refl refl refl n refl (λ log. refl) w (
      left_kept b s (with_cell s nodes name x) q.hand.r0 q.hand.n0 (seen_key c o s (with_cell s nodes name x) q.hand.r0 g at.0) facts.0,
      right_kept b s (with_cell s nodes name x) q.hand.r1 q.hand.n0 (onward_key b c o s (with_cell s nodes name x) q.hand.r1 g at.1) facts.1,
    )
told b c o o' s set q T notes phase event place s' place' q' here open_ (puts_key name m nodes x p is key) at at' f' g (call, w, n, facts) =
    told_makes b c o name m PutKey PutNext s set nodes x q q T notes phase call here p refl refl refl n refl (λ log. refl) w (
      left_kept b s (with_cell s nodes m x) q.hand.r0 q.hand.n0 (seen_key c o s (with_cell s nodes m x) q.hand.r0 g at.0) facts.0,
      right_kept b s (with_cell s nodes m x) q.hand.r1 q.hand.n0 (onward_key b c o s (with_cell s nodes m x) q.hand.r1 g at.1) facts.1,
      key_at s m q.hand.n0 nodes x q.hand.r4 is key,
    )
told b c o o' s set q T notes phase event place s' place' q' here open_ (puts_next name m nodes x p is key) at at' f' g (call, w, n, facts) =
    told_makes b c o name m PutNext Link s set nodes x q q T notes phase call here p refl refl refl n refl (λ log. refl) w (
      left_kept b s (with_cell s nodes m x) q.hand.r0 q.hand.n0 (seen_key c o s (with_cell s nodes m x) q.hand.r0 g at.0) facts.0,
      right_kept b s (with_cell s nodes m x) q.hand.r1 q.hand.n0 (onward_key b c o s (with_cell s nodes m x) q.hand.r1 g at.1) facts.1,
      key_at s m q.hand.n0 nodes x q.hand.r4 is (key ∙ (ap (keys s) (sym (node_of q.hand.r4 m is)) ∙ facts.2)),
    )
told b c o o' s set q T notes phase event place s' place' q' here open_ (links name x0 m p is0 is4) at at' f' g k' = told_links b c o name x0 m s set q T notes phase here at p is0 is4 k'
told b c o o' s set q T notes phase event place s' place' q' here open_ (links_not name) at at' f' g (call, w, n, facts) =
    again b (Access c name) c Link Insert s set q T notes phase call here refl (λ log. refl) w
told b c o o' s set q T notes phase event place s' place' q' here open_ (marks name x1 p is) at at' f' g k' = told_marks b c o name x1 s set q T notes phase here p is k'
told b c o o' s set q T notes phase event place s' place' q' here open_ (marks_not name) at at' f' g (call, w, n, facts) =
    again b (Access c name) c Mark Remove s set q T notes phase call here refl (λ log. refl) w
told b c o o' s set q T notes phase event place s' place' q' here open_ (unlinks name x0 x1 p) at at' f' g k' =
    told_pays b c name s (with_snip s x0 x1 q.hand.r2) set q T notes phase here.now (sorted_snip b s x0 x1 q.hand.r2 p here.sorted) (set_snip b s x0 x1 q.hand.r2 set p here.holds) k'
told b c o o' s set q T notes phase event place s' place' q' here open_ (unlinks_not name) at at' f' g k' = told_pays b c name s s set q T notes phase here.now here.sorted here.holds k'
told b c o o' s set q T notes phase event place s' place' q' here open_ (misses name k) at at' f' g k' = told_misses b c name k s set q T notes phase here k'
told b c o o' s set q T notes phase event place s' place' q' here open_ (is_there name) at at' f' g k' = told_there b c name s set q T notes phase here k'
told b c o o' s set q T notes phase event place s' place' q' here open_ (stops why) at at' f' g k' = told_stops b c why s set q T notes phase here k'
told b c o o' s set q T notes phase event place s' place' q' here open_ (starts k args) at at' f' g k' = told_starts b c k args s set q T notes phase here k'
told b c o o' s set q T notes phase event place s' place' q' here open_ (renews from e) at at' f' g k' = told_renews b c from s set q T notes phase here e (open_ refl) k'

-- what the callers share, with the set
pub record World : Type 0 where
  pub s : Shared
  pub set : List ℕ

abbrev pub world_memory : ℕ → World → Memory
world_memory b w = memory_of b w.s

pub record FineWorld (b : ℕ) (w : World) : Type 0 where
  pub fine : Fine b w.s
  pub sorted : Sorted b w.s
  pub holds : SetOf b w.s w.set

abbrev pub WorldGoes : ℕ → World → World → Type 0
WorldGoes c w w' = Goes c w.s w'.s

-- what is known of a caller
pub record Knows (b : ℕ) (w : World) (T : Times (List ℕ)) (notes : Notes) (phase : Phase) (c : ℕ) (caller : SourceCaller) : Type 0 where
  pub run : MethodRun
  pub place : Place
  pub q : Load
  pub is : caller ≡ shown place q
  pub stands : Stands b w.s c run place q.hand
  pub fits : Fits b w.s T notes c place q phase

fits_kept : (b c d o : ℕ) (who : Option ℕ) (s s' : Shared) (T : Times (List ℕ)) (a : List ℕ) (notes : Notes) (place : Place) (q : Load) (phase : Phase) (class : Class) → Fine b s → Goes c s s' → d ≢ c → At b s d o place q.hand
    → FitsClass b s T notes d place q phase class → FitsClass b s' (ticked T who a) notes d place q phase class
fits_kept b c d o who s s' T a notes place q phase (Works k) f g ne at (call, w, n, facts) =
    (call, working_kept T who a phase (op_of k) (slice_index q.args 0) call w, n, facts_kept b c d o who s s' T a notes call place q.hand f g ne at facts)
fits_kept b c d o who s s' T a notes place q phase _ f g ne at k = k

stable_knows : (b c d : ℕ) (who : Option ℕ) (w w' : World) (T : Times (List ℕ)) (notes : Notes) (phase : Phase) (caller : SourceCaller) → WorldGoes c w w' → FineWorld b w → d ≢ c → Knows b w T notes phase d caller → Knows b w' (ticked T who w'.set) notes phase d caller
stable_knows b c d who w w' T notes phase caller g f ne k = record {
  run = k.run;
  place = k.place;
  q = k.q;
  is = k.is;
  stands = stable b c d w.s w'.s k.run k.place k.q.hand g ne k.stands;
  fits = fits_kept b c d k.stands.began who w.s w'.s T w'.set notes k.place k.q phase (class_of k.place) f.fine g ne k.stands.at k.fits;
}

-- an idle caller doesn't restart
open_restart : (b : ℕ) (event : SourceEvent) (c : ℕ) (place : Place) (q : Load) (s : Shared) → is_enabled_by (set_text b) event (performed (set_text b) (shown place q)) (memory_of b s) (shown place q) ≡ true
    → event ≡ Restart c → class_of place ≢ Rests
open_restart b event c Idle q s e is same =
    let z : false ≡ true = ap (λ (x : SourceEvent). is_enabled_by (set_text b) x (performed (set_text b) (shown Idle q)) (memory_of b s) (shown Idle q)) (sym is) ∙ e in cc
open_restart b event c (Pick k) q s e is same = let z : Works k ≡ Rests = same in cc
open_restart b event c (First k) q s e is same = let z : Works k ≡ Rests = same in cc
open_restart b event c (Second k) q s e is same = let z : Works k ≡ Rests = same in cc
open_restart b event c (Key k) q s e is same = let z : Works k ≡ Rests = same in cc
open_restart b event c (Snip k) q s e is same = let z : Works k ≡ Rests = same in cc
open_restart b event c Mark q s e is same = let z : Works Remove ≡ Rests = same in cc
open_restart b event c Unlink q s e is same = let z : Unlinks ≡ Rests = same in cc
open_restart b event c (Missed k) q s e is same = let z : Works k ≡ Rests = same in cc
open_restart b event c There q s e is same = let z : Works Contains ≡ Rests = same in cc
open_restart b event c _ q s e is same = let z : Works Insert ≡ Rests = same in cc

shown_replies : (place : Place) (q : Load) → (shown place q).replies ≡ q.replies
shown_replies Idle q = refl
shown_replies _ q = refl

-- a call runs if its caller isn't idle
abbrev pub class_runs : Class → Bool
class_runs Rests = false
class_runs Unlinks = true
class_runs (Works k) = true

runs_class : (b : ℕ) (s : Shared) (T : Times (List ℕ)) (notes : Notes) (c : ℕ) (place : Place) (q : Load) (phase : Phase) (class : Class) → FitsClass b s T notes c place q phase class → phase_runs phase ≡ class_runs class
runs_class b s T notes c place q phase Rests k = ap phase_runs k
runs_class b s T notes c place q phase Unlinks (call, d, k, r) = ap phase_runs k
runs_class b s T notes c place q phase (Works k) (call, w, n, facts) = ap phase_runs w.0

shown_runs : (place : Place) (q : Load) → is_some (shown place q).running ≡ class_runs (class_of place)
shown_runs Idle q = refl
shown_runs _ q = refl

knows_runs : (b : ℕ) (w : World) (T : Times (List ℕ)) (notes : Notes) (phase : Phase) (c : ℕ) (caller : SourceCaller) → Knows b w T notes phase c caller → is_some caller.running ≡ phase_runs phase
knows_runs b w T notes phase c caller k =
    ap (λ (y : SourceCaller). is_some y.running) k.is ∙ (shown_runs k.place k.q ∙ sym (runs_class b w.s T notes c k.place k.q phase (class_of k.place) k.fits))

deals : (b : ℕ) → 0 < b → (event : SourceEvent) (w : World) (T : Times (List ℕ)) (notes : Notes) (phase : Phase) (caller : SourceCaller) → FineWorld b w → w.set ≡ T.past T.time → Knows b w T notes phase (mover event) caller
    → is_enabled_by (set_text b) event (performed (set_text b) caller) (world_memory b w) caller ≡ true
    → Dealt (set_text b) set_rules (List ℕ) World set_step (world_memory b) (FineWorld b) (λ x. x.set) (Knows b) WorldGoes event (mover event) w T notes phase caller
deals b some event w T notes phase caller f now o e =
    let m = memory_of b w.s in
    let e' : is_enabled_by (set_text b) event (performed (set_text b) (shown o.place o.q)) m (shown o.place o.q) ≡ true = subst (λ (y : SourceCaller). is_enabled_by (set_text b) event (performed (set_text b) y) m y ≡ true) o.is e in
    let k : Keeps b event (mover event) w.s o.place o.q o.run = keeps_open b event w.s o.place o.q o.run some f.fine o.stands e' in
    let t : Told b event (mover event) k.s' o.place o.q k.place' k.q' T notes phase =
    told b (mover event) o.stands.began k.stands.began w.s w.set o.q T notes phase event o.place k.s' k.place' k.q' (record { fine = f.fine; sorted = f.sorted; holds = f.holds; now = now })
    (open_restart b event (mover event) o.place o.q w.s e') k.way o.stands.at k.stands.at k.fine k.goes o.fits in
    record {
      s' = record { s = k.s'; set = t.set' };
      after = shown k.place' k.q';
      noted = t.noted;
      move = t.move;
      phase' = t.phase';
      turn = ap (caller_turn (set_text b) event m) o.is ∙ k.does.0;
      tells = ap (λ (y : SourceCaller). noted_of set_rules event T.time notes y.running (shown k.place' k.q')) o.is ∙ t.tells;
      said = shown_replies k.place' k.q' ∙ (t.said ∙ ap (said_by t.move) (sym (shown_replies o.place o.q) ∙ ap (λ (y : SourceCaller). y.replies) (sym o.is)));
      logs = λ log. ap (λ (y : SourceCaller). logged event T.time y.running (shown k.place' k.q') log) o.is ∙ t.logs log;
      fine = record { fine = k.fine; sorted = t.sorted; holds = t.holds };
      goes = k.goes;
      deal = subst (λ (y : SourceCaller). Deal (List ℕ) set_step T (mover event) (accesses event y.running) t.set' phase t.noted.deed t.move t.phase') (sym o.is) t.deal;
      knows = subst (λ (y : SourceCaller). Knows b (record { s = k.s'; set = t.set' }) (ticked T (accesses event y.running) t.set') t.noted.notes t.phase' (mover event) (shown k.place' k.q')) (sym o.is)
          (record { run = k.run'; place = k.place'; q = k.q'; is = refl; stands = k.stands; fits = t.fits });
    }

first_sorted : (b : ℕ) → Sorted b (first_shared b)
first_sorted b = record {
  rises = λ n live. inl (ap (λ (r : Reference). r.node) (first_leads b n));
  one = λ m n l l' far far' home key. absurd (let le = first_inner b m l.0 in let no : ⊥ = omega (arith, le, far) in no);
  reaches = λ x z l l' before. absurd (let le = first_inner b z l'.0 in let far = before.inner in let no : ⊥ = omega (arith, le, far) in no);
}

first_set : (b : ℕ) → SetOf b (first_shared b) []
first_set b = record {
  there = λ k e. absurd (let z : false ≡ true = e in cc);
  all = λ k i. absurd (let le = first_inner b i.0 i.1 in let far = i.2 in let no : ⊥ = omega (arith, le, far) in no);
}

first_knows : (b : ℕ) (T : Times (List ℕ)) (c : ℕ) → Knows b (record { s = first_shared b; set = [] }) T no_notes Resting c idle_caller
first_knows b T c = record {
  run = record { got = []; old = [] };
  place = Idle;
  q = record { replies = []; args = []; hand = first_hand [] };
  is = refl;
  stands = first_stands b c;
  fits = refl;
}

pub set_answers : SetAnswers
set_answers b callers events state some run =
    (books_answer (set_text b) set_rules (List ℕ) World set_step (world_memory b) (FineWorld b) (λ w. w.set) (Knows b) WorldGoes (stable_knows b) (deals b some) (knows_runs b) (record { s = first_shared b; set = [] }) (first_is b)
    (record { fine = first_fine b; sorted = first_sorted b; holds = first_set b }) (first_knows b) callers events state run)

-- what is told of a running call stands
pub set_deeds_stand : SetDeedsStand
set_deeds_stand b some =
    deeds_stand (set_text b) set_rules (List ℕ) World set_step (world_memory b) (FineWorld b) (λ w. w.set) (Knows b) WorldGoes (stable_knows b) (deals b some) (record { s = first_shared b; set = [] }) (first_is b)
    (record { fine = first_fine b; sorted = first_sorted b; holds = first_set b }) (first_knows b)
