-- Each event of a set deals with its deeds as it should.
use Rattle.std.proofs.Common.{ℕ, suc, ◌≡◌, ◌==◌, ◌≤◌, ◌<◌, ◌⊎◌, ◌∙◌, ◌++◌, Bool, true, false, nat_lt, List, [], ◌∷◌, Option, Some, None, sym, ap, subst, refl, inl, inr, ⊎_elim, arith}
use Rattle.std.specs.Prelude.{slice_index}
use Rattle.std.proofs.lemmas.Bool.Decides.{nat_tests}
use Rattle.norm_lang.specs.declared.registers.Reference.{Reference}
use Rattle.norm_lang.specs.Registers.{no_reference}
use Rattle.norm_lang.specs.Local.{remainder}
use Rattle.source_machine.specs.declared.event.SourceEvent.{SourceEvent}
use Rattle.source_machine.specs.declared.event.SourceEvent.TheVariants.{Access, GiveUp}
use Rattle.norm_lang.specs.declared.reply.SourceReply.{SourceReply}
use Rattle.norm_lang.specs.declared.reply.SourceReply.TheVariants as replies
use Rattle.source_machine.specs.declared.state.Running.{Running}
use Rattle.source_machine.specs.MethodRuns.{put}
use Rattle.source_machine.specs.Proper.{has}
use Rattle.source_machine.proofs.Places.{put_same}
use Rattle.source_histories.specs.declared.deed.Deed.{Deed}
use Rattle.source_histories.specs.declared.deed.Notes.{Notes}
use Rattle.source_histories.specs.declared.deed.Noted.{Noted}
use Rattle.source_histories.specs.Books.{accesses, noted_of, begins_run, Started, Log, log_ended, log_again, logged, last_reply, number_of}
use Rattle.source_histories.proofs.Lists.{last_push}
use Rattle.source_histories.proofs.Dealing.{Times, ticked, Phase, Resting, Working, Landed, Move, Stays, Ends, moved, said_by, Deal, works}
use Rattle.set_source.specs.Places.{Kind, Insert, Remove, Contains, op_of, Place, Idle, Pick, First, Second, Key, Snip, New, PutKey, PutNext, Link, Mark, Unlink, Missed, There, absent, present, unmarked, Load, shown, with_hand, replying}
use Rattle.set_source.specs.Relation.{to, Public, Cell, Shared, Fine, Live, Seen, Within, At, Goes}
use Rattle.set_source.proofs.Changes.{Snips, snipped_cell, with_snip}
use Rattle.set_laws.specs.Sets.{with_key, without_key, inserted, removed, searched, set_step, with_gap, with_load, after_key, set_moment, set_rules}
use Rattle.set_laws.proofs.Sorting.{keys, homes, Sorted, sorted_snip, SetOf, live_plain, set_snip}
use Rattle.set_laws.proofs.Searching.{HomeOf, LeftOf, Facts, facts_absent, facts_present, open_kept, open_now, past_kept, past_now, within_public, within_inner, seen_key, left_kept, gap_kept, missing_now, home_next}

-- a call that runs, without a deed
abbrev pub IsWorking : Times (List ℕ) → Phase → ℕ → ℕ → Started → Type 0
IsWorking T phase op arg call = (phase ≡ Working call) × (call.op ≡ op) × (call.arg ≡ arg) × (call.since < T.time)

pub working_kept : (T : Times (List ℕ)) (who : Option ℕ) (a : List ℕ) (phase : Phase) (op arg : ℕ) (call : Started) → IsWorking T phase op arg call → IsWorking (ticked T who a) phase op arg call
working_kept T who a phase op arg call k = (k.0, k.1, k.2, (let lt = k.3 in omega (arith, lt)))

-- a caller is idle; its removal has marked its node; it works
pub data Class : Type 0 where
  Rests : Class
  Unlinks : Class
  Works : (kind : Kind) → Class

abbrev pub class_of : Place → Class
class_of Idle = Rests
class_of (Pick k) = Works k
class_of (First k) = Works k
class_of (Second k) = Works k
class_of (Key k) = Works k
class_of (Snip k) = Works k
class_of New = Works Insert
class_of PutKey = Works Insert
class_of PutNext = Works Insert
class_of Link = Works Insert
class_of Mark = Works Remove
class_of Unlink = Unlinks
class_of (Missed k) = Works k
class_of There = Works Contains

abbrev pub FitsClass : ℕ → Shared → Times (List ℕ) → Notes → ℕ → Place → Load → Phase → Class → Type 0
FitsClass b s T notes c place q phase Rests = phase ≡ Resting
FitsClass b s T notes c place q phase Unlinks = (call : Started) × (d : Deed) × (phase ≡ Landed call d) × (d.reply ≡ Some 1)
FitsClass b s T notes c place q phase (Works k) =
    (call : Started) × IsWorking T phase (op_of k) (slice_index q.args 0) call × (q.hand.n0 ≡ slice_index q.args 0) × Facts b s T notes c call place q.hand

abbrev pub Fits : ℕ → Shared → Times (List ℕ) → Notes → ℕ → Place → Load → Phase → Type 0
Fits b s T notes c place q phase = FitsClass b s T notes c place q phase (class_of place)

pub class_absent : (k : Kind) → class_of (absent k) ≡ Works k
class_absent Insert = refl
class_absent _ = refl

pub class_present : (k : Kind) → class_of (present k) ≡ Works k
class_present Insert = refl
class_present _ = refl

-- what an event tells, and what it does to the caller's call and to the set
pub record Told (b : ℕ) (event : SourceEvent) (c : ℕ) (s' : Shared) (place : Place) (q : Load) (place' : Place) (q' : Load) (T : Times (List ℕ)) (notes : Notes) (phase : Phase) : Type 0 where
  pub set' : List ℕ
  pub noted : Noted
  pub move : Move
  pub phase' : Phase
  pub tells : noted_of set_rules event T.time notes (shown place q).running (shown place' q') ≡ noted
  pub said : q'.replies ≡ said_by move q.replies
  pub logs : (log : Log) → logged event T.time (shown place q).running (shown place' q') log ≡ moved T.time move log
  pub sorted : Sorted b s'
  pub holds : SetOf b s' set'
  pub deal : Deal (List ℕ) set_step T c (accesses event (shown place q).running) set' phase noted.deed move phase'
  pub fits : Fits b s' (ticked T (accesses event (shown place q).running) set') noted.notes c place' q' phase'

-- the log of a call that goes on, and of one that ends
logs_absent : (c name t : ℕ) (k : Kind) (before : Option Running) (q : Load) (log : Log) → begins_run (Access c name) before (shown (absent k) q).running ≡ false → logged (Access c name) t before (shown (absent k) q) log ≡ log
logs_absent c name t Insert before q log none = ap (λ x. log_again x t log) none
logs_absent c name t _ before q log none = ap (λ x. log_again x t log) none

logs_present : (c name t : ℕ) (k : Kind) (before : Option Running) (q : Load) (log : Log) → begins_run (Access c name) before (shown (present k) q).running ≡ false → logged (Access c name) t before (shown (present k) q) log ≡ log
logs_present c name t Insert before q log none = ap (λ x. log_again x t log) none
logs_present c name t _ before q log none = ap (λ x. log_again x t log) none

pub ends_log : (c name t : ℕ) (before : Option Running) (q : Load) (r : SourceReply) (log : Log) → begins_run (Access c name) before None ≡ false → logged (Access c name) t before (shown Idle (replying r q)) log ≡ moved t (Ends r) log
ends_log c name t before q r log none =
    ap (λ x. log_again x t (log_ended t (last_reply replies.Nothing (q.replies ++ r ∷ [])) log.now log)) none ∙ ap (λ x. log_ended t x log.now log) (last_push replies.Nothing r q.replies)

pub stops_log : (c t : ℕ) (phase : Option ℕ) (before : Option Running) (q : Load) (r : SourceReply) (log : Log) → logged (GiveUp c phase) t before (shown Idle (replying r q)) log ≡ moved t (Ends r) log
stops_log c t phase before q r log = ap (λ x. log_ended t x log.now log) (last_push replies.Nothing r q.replies)

-- what is remembered after the load of the key, and after an exchange that took a node out
tells_absent : (c name t : ℕ) (notes : Notes) (k : Kind) (q q' : Load) → noted_of set_rules (Access c name) t notes (shown (Key k) q).running (shown (absent k) q') ≡ record { notes = after_key (nat_lt q'.hand.n1 q'.hand.n0) notes; deed = None }
tells_absent c name t notes Insert q q' = refl
tells_absent c name t notes _ q q' = refl

tells_present : (c name t : ℕ) (notes : Notes) (k : Kind) (q q' : Load) → noted_of set_rules (Access c name) t notes (shown (Key k) q).running (shown (present k) q') ≡ record { notes = after_key (nat_lt q'.hand.n1 q'.hand.n0) notes; deed = None }
tells_present c name t notes Insert q q' = refl
tells_present c name t notes _ q q' = refl

tells_snipped : (c name t : ℕ) (notes : Notes) (k : Kind) (q q' : Load) → noted_of set_rules (Access c name) t notes (shown (Snip k) q).running (shown (absent k) q') ≡ record { notes = with_gap t notes; deed = None }
tells_snipped c name t notes Insert q q' = refl
tells_snipped c name t notes _ q q' = refl

key_noted : (x y : Bool) (notes : Notes) → x ≡ y → (let n : Noted = record { notes = after_key x notes; deed = None } in n) ≡ record { notes = after_key y notes; deed = None }
key_noted x y notes e = ap (λ z. let n : Noted = record { notes = after_key z notes; deed = None } in n) e

-- the deeds
abbrev pub deed : ℕ → ℕ → ℕ → ℕ → ℕ → Deed
deed c op arg reply moment = record { caller = c; op = op; arg = arg; reply = Some reply; moment = moment }

pub insert_step : (arg t c : ℕ) (set : List ℕ) → has arg set ≡ false → set_step (deed c 0 arg 1 t) set ≡ Some (with_key arg set)
insert_step arg t c set e = ap (λ x. inserted x arg 1 set) e

pub insert_found : (arg t c : ℕ) (set : List ℕ) → has arg set ≡ true → set_step (deed c 0 arg 0 t) set ≡ Some set
insert_found arg t c set e = ap (λ x. inserted x arg 0 set) e

pub remove_step : (arg t c : ℕ) (set : List ℕ) → has arg set ≡ true → set_step (deed c 1 arg 1 t) set ≡ Some (without_key arg set)
remove_step arg t c set e = ap (λ x. removed x arg 1 set) e

pub remove_missed : (arg t c : ℕ) (set : List ℕ) → has arg set ≡ false → set_step (deed c 1 arg 0 t) set ≡ Some set
remove_missed arg t c set e = ap (λ x. removed x arg 0 set) e

pub search_found : (arg t c : ℕ) (set : List ℕ) → has arg set ≡ true → set_step (deed c 2 arg 1 t) set ≡ Some set
search_found arg t c set e = ap (λ x. searched x 1 set) e

pub search_missed : (arg t c : ℕ) (set : List ℕ) → has arg set ≡ false → set_step (deed c 2 arg 0 t) set ≡ Some set
search_missed arg t c set e = ap (λ x. searched x 0 set) e

-- what a commit tells if the call ends
pub ended_noted : (c t op arg : ℕ) (notes : Notes) (q : Load) (v : ℕ)
    → (let n : Noted = record { notes = notes; deed = Some (record { caller = c; op = op; arg = arg; reply = number_of (last_reply replies.Nothing (q.replies ++ replies.Number v ∷ [])); moment = set_moment t notes op (number_of (last_reply replies.Nothing (q.replies ++ replies.Number v ∷ []))) }) } in n)
    ≡ record { notes = notes; deed = Some (record { caller = c; op = op; arg = arg; reply = Some v; moment = set_moment t notes op (Some v) }) }
ended_noted c t op arg notes q v = ap (λ (r : SourceReply). let n : Noted = record { notes = notes; deed = Some (record { caller = c; op = op; arg = arg; reply = number_of r; moment = set_moment t notes op (number_of r) }) } in n) (last_push replies.Nothing (replies.Number v) q.replies)

-- what is known of what the callers share
pub record Here (b : ℕ) (s : Shared) (set : List ℕ) (T : Times (List ℕ)) : Type 0 where
  pub fine : Fine b s
  pub sorted : Sorted b s
  pub holds : SetOf b s set
  pub now : set ≡ T.past T.time

-- a call goes on, and the set stays
pub walked : (b c name : ℕ) (s s' : Shared) (set : List ℕ) (place place' : Place) (k : Kind) (q q' : Load) (T : Times (List ℕ)) (notes notes' : Notes) (phase : Phase) (call : Started)
    → set ≡ T.past T.time → Sorted b s' → SetOf b s' set → class_of place' ≡ Works k → q'.args ≡ q.args → q'.replies ≡ q.replies → q'.hand.n0 ≡ slice_index q.args 0
    → noted_of set_rules (Access c name) T.time notes (shown place q).running (shown place' q') ≡ record { notes = notes'; deed = None }
    → ((log : Log) → logged (Access c name) T.time (shown place q).running (shown place' q') log ≡ log)
    → IsWorking T phase (op_of k) (slice_index q.args 0) call → Facts b s' (ticked T (accesses (Access c name) (shown place q).running) set) notes' c call place' q'.hand → Told b (Access c name) c s' place q place' q' T notes phase
walked b c name s s' set place place' k q q' T notes notes' phase call now sorted holds class args said n0 tells logs w facts = record {
  set' = set;
  noted = record { notes = notes'; deed = None };
  move = Stays;
  phase' = phase;
  tells = tells;
  said = said;
  logs = logs;
  sorted = sorted;
  holds = holds;
  deal = subst (λ (p : Phase). Deal (List ℕ) set_step T c (accesses (Access c name) (shown place q).running) set p None Stays p) (sym w.0) (works call now);
  fits = subst (FitsClass b s' (ticked T (accesses (Access c name) (shown place q).running) set) notes' c place' q' phase) (sym class)
      (call, (w.0, w.1, w.2 ∙ ap (λ xs. slice_index xs 0) (sym args), (let lt = w.3 in omega (arith, lt))), n0 ∙ ap (λ xs. slice_index xs 0) (sym args), facts);
}

pub node_of : (r : Reference) (m : ℕ) → r ≡ to m → r.node ≡ m
node_of r m e = ap (λ (x : Reference). x.node) e

sentinel_live : (b i : ℕ) (s : Shared) (r : Reference) → Fine b s → i < b → r ≡ to (suc i) → Live s r.node
sentinel_live b i s r f lt e = subst (λ (x : Reference). Live s x.node) (sym e) ((f.sentinel i lt).owner, (f.sentinel i lt).stays)

-- what is true of the set now is true of it before this event
pub was_now : (T : Times (List ℕ)) (who : Option ℕ) (n : ℕ) (x : Bool) (set a : List ℕ) → set ≡ T.past T.time → has n set ≡ x → has n ((ticked T who a).past T.time) ≡ x
was_now T who n x set a now e = ap (has n) (past_now T who a ∙ sym now) ∙ e

pub was_then : (T : Times (List ℕ)) (who : Option ℕ) (m n : ℕ) (x : Bool) (a : List ℕ) → m < T.time → has n (T.past m) ≡ x → has n ((ticked T who a).past m) ≡ x
was_then T who m n x a lt e = ap (has n) (past_kept T who m a lt) ∙ e

pub told_first_none : (b c o name : ℕ) (k : Kind) (s : Shared) (set : List ℕ) (q : Load) (T : Times (List ℕ)) (notes : Notes) (phase : Phase) → Here b s set T → At b s c o (First k) q.hand
    → (s.cell q.hand.r0.node).next ≡ no_reference → Fits b s T notes c (First k) q phase → Told b (Access c name) c s (First k) q (absent k) (with_hand q (record q.hand { r1 = no_reference })) T notes phase
told_first_none b c o name k s set q T notes phase here at nx (call, w, n, facts) =
    let live = sentinel_live b at.0 s q.hand.r0 here.fine at.1 at.2 in
    let missing : has q.hand.n0 set ≡ false = missing_now b s set q.hand.r0.node q.hand.n0 here.fine here.sorted here.holds live facts.0 facts.1 (inl (ap (λ (r : Reference). r.node) nx)) in
    walked b c name s s set (First k) (absent k) k q (with_hand q (record q.hand { r1 = no_reference })) T notes (with_gap T.time notes) phase call here.now here.sorted here.holds (class_absent k) refl refl n refl
    (λ log. logs_absent c name T.time k (shown (First k) q).running (with_hand q (record q.hand { r1 = no_reference })) log refl) w
    (facts_absent b s (ticked T (Some c) set) (with_gap T.time notes) c call k (record q.hand { r1 = no_reference }) facts (inl refl) (open_now T c set call w.3) (was_now T (Some c) q.hand.n0 false set set here.now missing))

pub told_first_some : (b c o o' name : ℕ) (k : Kind) (m : ℕ) (s : Shared) (set : List ℕ) (q : Load) (T : Times (List ℕ)) (notes : Notes) (phase : Phase) → Here b s set T → At b s c o (First k) q.hand → Within b s o' (to m)
    → (s.cell q.hand.r0.node).next ≡ to m → Fits b s T notes c (First k) q phase → Told b (Access c name) c s (First k) q (Second k) (with_hand q (record q.hand { r1 = to m })) T notes phase
told_first_some b c o o' name k m s set q T notes phase here at at' nx (call, w, n, facts) =
    let live = sentinel_live b at.0 s q.hand.r0 here.fine at.1 at.2 in
    let e : (s.cell q.hand.r0.node).next.node ≡ m = ap (λ (r : Reference). r.node) nx in
    let far : b < m = within_inner b s o' (to m) at' in
    walked b c name s s set (First k) (Second k) k q (with_hand q (record q.hand { r1 = to m })) T notes (with_gap T.time notes) phase call here.now here.sorted here.holds refl refl refl n refl (λ log. refl) w (
      facts,
      subst (λ i. homes b (keys s) i ≡ remainder q.hand.n0 b) e (⊎_elim
          (λ (null : (s.cell q.hand.r0.node).next.node ≡ 0). absurd (let no : ⊥ = omega (arith, null, e, far) in no))
          (λ (home : homes b (keys s) (s.cell q.hand.r0.node).next.node ≡ remainder q.hand.n0 b). home)
          (home_next b s q.hand.r0.node q.hand.n0 here.sorted live facts.0)),
      (
        open_now T c set call w.3,
        λ ahead. was_now T (Some c) q.hand.n0 false set set here.now
            (missing_now b s set q.hand.r0.node q.hand.n0 here.fine here.sorted here.holds live facts.0 facts.1 (subst (λ i. (i ≡ 0) ⊎ (q.hand.n0 < keys s i)) (sym e) ahead)),
      ),
    )

pub told_second_plain : (b c o name : ℕ) (k : Kind) (m : ℕ) (s : Shared) (set : List ℕ) (q : Load) (T : Times (List ℕ)) (notes : Notes) (phase : Phase) → Here b s set T → At b s c o (Second k) q.hand
    → q.hand.r1 ≡ to m → (s.cell m).next.marked ≡ false → Fits b s T notes c (Second k) q phase
    → Told b (Access c name) c s (Second k) q (Key k) (with_hand q (record q.hand { r2 = (s.cell m).next })) T notes phase
told_second_plain b c o name k m s set q T notes phase here at is plain (call, w, n, facts) =
    let e : q.hand.r1.node ≡ m = node_of q.hand.r1 m is in
    let own : (s.cell m).owner ≡ Public = ap (λ i. (s.cell i).owner) (sym e) ∙ within_public b s o q.hand.r1 at.1 in
    let far : b < m = (let lt = within_inner b s o q.hand.r1 at.1 in omega (arith, lt, e)) in
    let live = live_plain b s m here.fine own plain in
    let home : homes b (keys s) m ≡ remainder q.hand.n0 b = subst (λ i. homes b (keys s) i ≡ remainder q.hand.n0 b) e facts.1 in
    walked b c name s s set (Second k) (Key k) k q (with_hand q (record q.hand { r2 = (s.cell m).next })) T notes (with_load T.time notes) phase call here.now here.sorted here.holds refl refl refl n refl (λ log. refl) w
    (record {
      left = facts.0;
      home = facts.1;
      gap = gap_kept s s T (Some c) c set call notes.gap q.hand.r1 q.hand.n0 (inr refl) facts.2;
      onto = home_next b s m q.hand.n0 here.sorted live home;
      loaded = open_now T c set call w.3;
      there = ap (λ i. has (keys s i) ((ticked T (Some c) set).past T.time)) e ∙ was_now T (Some c) (keys s m) true set set here.now (here.holds.all (keys s m) (m, own, far, plain, refl));
      next = λ lt ahead. was_now T (Some c) q.hand.n0 false set set here.now
          (missing_now b s set m q.hand.n0 here.fine here.sorted here.holds live home (inr (subst (λ i. keys s i < q.hand.n0) e lt)) ahead);
    })

pub told_key_less : (b c name : ℕ) (k : Kind) (m : ℕ) (s : Shared) (set : List ℕ) (q : Load) (T : Times (List ℕ)) (notes : Notes) (phase : Phase) → Here b s set T
    → q.hand.r1 ≡ to m → nat_lt q.hand.n0 (s.cell m).key ≡ true → Fits b s T notes c (Key k) q phase
    → Told b (Access c name) c s (Key k) q (absent k) (with_hand q (record q.hand { n1 = (s.cell m).key })) T notes phase
told_key_less b c name k m s set q T notes phase here is less (call, w, n, facts) =
    let e : q.hand.r1.node ≡ m = node_of q.hand.r1 m is in
    let lt : q.hand.n0 < keys s q.hand.r1.node = subst (λ i. q.hand.n0 < keys s i) (sym e) (grind (arith, nat_tests, less)) in
    let back : nat_lt (s.cell m).key q.hand.n0 ≡ false = grind (arith, nat_tests, less) in
    let q' = with_hand q (record q.hand { n1 = (s.cell m).key }) in
    walked b c name s s set (Key k) (absent k) k q q' T notes notes phase call here.now here.sorted here.holds (class_absent k) refl refl n
    (tells_absent c name T.time notes k q q' ∙ key_noted (nat_lt (s.cell m).key q.hand.n0) false notes back) (λ log. logs_absent c name T.time k (shown (Key k) q).running q' log refl) w
    (facts_absent b s (ticked T (Some c) set) notes c call k (record q.hand { n1 = (s.cell m).key }) facts.left (inr (facts.home, lt)) (open_kept T (Some c) c notes.gap set call facts.gap.0)
    (was_then T (Some c) notes.gap q.hand.n0 false set facts.gap.0.past (facts.gap.1 (inr lt))))

pub told_key_same : (b c name : ℕ) (k : Kind) (m : ℕ) (s : Shared) (set : List ℕ) (q : Load) (T : Times (List ℕ)) (notes : Notes) (phase : Phase) → Here b s set T
    → q.hand.r1 ≡ to m → (q.hand.n0 == (s.cell m).key) ≡ true → Fits b s T notes c (Key k) q phase
    → Told b (Access c name) c s (Key k) q (present k) (with_hand q (record q.hand { n1 = (s.cell m).key })) T notes phase
told_key_same b c name k m s set q T notes phase here is same (call, w, n, facts) =
    let e : q.hand.r1.node ≡ m = node_of q.hand.r1 m is in
    let eq : q.hand.n0 ≡ (s.cell m).key = grind (arith, nat_tests, same) in
    let key : keys s q.hand.r1.node ≡ q.hand.n0 = ap (keys s) e ∙ sym eq in
    let back : nat_lt (s.cell m).key q.hand.n0 ≡ false = grind (arith, nat_tests, same) in
    let q' = with_hand q (record q.hand { n1 = (s.cell m).key }) in
    walked b c name s s set (Key k) (present k) k q q' T notes notes phase call here.now here.sorted here.holds (class_present k) refl refl n
    (tells_present c name T.time notes k q q' ∙ key_noted (nat_lt (s.cell m).key q.hand.n0) false notes back) (λ log. logs_present c name T.time k (shown (Key k) q).running q' log refl) w
    (facts_present b s (ticked T (Some c) set) notes c call k (record q.hand { n1 = (s.cell m).key }) key (open_kept T (Some c) c notes.load set call facts.loaded)
    (was_then T (Some c) notes.load q.hand.n0 true set facts.loaded.past (ap (λ i. has i (T.past notes.load)) (sym key) ∙ facts.there)))

pub told_key_none : (b c name : ℕ) (k : Kind) (m : ℕ) (s : Shared) (set : List ℕ) (q : Load) (T : Times (List ℕ)) (notes : Notes) (phase : Phase) → Here b s set T
    → q.hand.r1 ≡ to m → nat_lt q.hand.n0 (s.cell m).key ≡ false → (q.hand.n0 == (s.cell m).key) ≡ false → q.hand.r2 ≡ no_reference → Fits b s T notes c (Key k) q phase
    → Told b (Access c name) c s (Key k) q (absent k) (with_hand q (record q.hand { n1 = (s.cell m).key; r0 = q.hand.r1; r1 = q.hand.r2 })) T notes phase
told_key_none b c name k m s set q T notes phase here is less same null (call, w, n, facts) =
    let e : q.hand.r1.node ≡ m = node_of q.hand.r1 m is in
    let passed : nat_lt (s.cell m).key q.hand.n0 ≡ true = grind (arith, nat_tests, less, same) in
    let lt : keys s q.hand.r1.node < q.hand.n0 = subst (λ i. keys s i < q.hand.n0) (sym e) (grind (arith, nat_tests, passed)) in
    let zero_ : q.hand.r2.node ≡ 0 = ap (λ (r : Reference). r.node) null in
    let h = record q.hand { n1 = (s.cell m).key; r0 = q.hand.r1; r1 = q.hand.r2 } in
    walked b c name s s set (Key k) (absent k) k q (with_hand q h) T notes (with_gap notes.load notes) phase call here.now here.sorted here.holds (class_absent k) refl refl n
    (tells_absent c name T.time notes k q (with_hand q h) ∙ key_noted (nat_lt (s.cell m).key q.hand.n0) true notes passed) (λ log. logs_absent c name T.time k (shown (Key k) q).running (with_hand q h) log refl) w
    (facts_absent b s (ticked T (Some c) set) (with_gap notes.load notes) c call k h (facts.home, inr lt) (inl zero_) (open_kept T (Some c) c notes.load set call facts.loaded)
    (was_then T (Some c) notes.load q.hand.n0 false set facts.loaded.past (facts.next lt (inl zero_))))

pub told_key_more : (b c o' name : ℕ) (k : Kind) (m : ℕ) (s : Shared) (set : List ℕ) (q : Load) (T : Times (List ℕ)) (notes : Notes) (phase : Phase) → Here b s set T → Within b s o' q.hand.r2
    → q.hand.r1 ≡ to m → nat_lt q.hand.n0 (s.cell m).key ≡ false → (q.hand.n0 == (s.cell m).key) ≡ false → Fits b s T notes c (Key k) q phase
    → Told b (Access c name) c s (Key k) q (Second k) (with_hand q (record q.hand { n1 = (s.cell m).key; r0 = q.hand.r1; r1 = q.hand.r2 })) T notes phase
told_key_more b c o' name k m s set q T notes phase here at' is less same (call, w, n, facts) =
    let e : q.hand.r1.node ≡ m = node_of q.hand.r1 m is in
    let passed : nat_lt (s.cell m).key q.hand.n0 ≡ true = grind (arith, nat_tests, less, same) in
    let lt : keys s q.hand.r1.node < q.hand.n0 = subst (λ i. keys s i < q.hand.n0) (sym e) (grind (arith, nat_tests, passed)) in
    let far : b < q.hand.r2.node = within_inner b s o' q.hand.r2 at' in
    let h = record q.hand { n1 = (s.cell m).key; r0 = q.hand.r1; r1 = q.hand.r2 } in
    walked b c name s s set (Key k) (Second k) k q (with_hand q h) T notes (with_gap notes.load notes) phase call here.now here.sorted here.holds refl refl refl n
    (key_noted (nat_lt (s.cell m).key q.hand.n0) true notes passed) (λ log. refl) w (
      (facts.home, inr lt),
      ⊎_elim (λ (null : q.hand.r2.node ≡ 0). absurd (let no : ⊥ = omega (arith, null, far) in no)) (λ (home : HomeOf b s q.hand.r2 q.hand.n0). home) facts.onto,
      (open_kept T (Some c) c notes.load set call facts.loaded, λ ahead. was_then T (Some c) notes.load q.hand.n0 false set facts.loaded.past (facts.next lt ahead)),
    )

-- after a snip
pub record Snipped (b : ℕ) (s : Shared) (x0 x1 : ℕ) (y : Reference) (set : List ℕ) (n : ℕ) : Type 0 where
  pub live : Live (with_snip s x0 x1 y) x0
  pub next : (put s.cell x0 (snipped_cell s x0 y) x0).next.node ≡ y.node
  pub sorted : Sorted b (with_snip s x0 x1 y)
  pub holds : SetOf b (with_snip s x0 x1 y) set
  pub left : (homes b (keys (with_snip s x0 x1 y)) x0 ≡ remainder n b) × ((x0 ≤ b) ⊎ (keys (with_snip s x0 x1 y) x0 < n))

snipped : (b c o : ℕ) (s : Shared) (x0 x1 : ℕ) (y r0 : Reference) (set : List ℕ) (n : ℕ) (T : Times (List ℕ)) → Here b s set T → Snips b s x0 x1 y → Fine b (with_snip s x0 x1 y) → Goes c s (with_snip s x0 x1 y) → Seen s o r0 → r0 ≡ to x0 → LeftOf b s r0 n
    → Snipped b s x0 x1 y set n
snipped b c o s x0 x1 y r0 set n T here p f' g at is left =
    let cell = put_same s.cell x0 (snipped_cell s x0 y) in
    let s' = with_snip s x0 x1 y in
    record {
      live = live_plain b s' x0 f' (ap (λ (z : Cell). z.owner) cell) (ap (λ (z : Cell). z.next.marked) cell ∙ p.plain);
      next = ap (λ (z : Cell). z.next.node) cell;
      sorted = sorted_snip b s x0 x1 y p here.sorted;
      holds = set_snip b s x0 x1 y set p here.holds;
      left = subst (λ i. (homes b (keys s') i ≡ remainder n b) × ((i ≤ b) ⊎ (keys s' i < n))) (node_of r0 x0 is) (left_kept b s s' r0 n (seen_key c o s s' r0 g at) left);
    }

pub told_snip_none : (b c o name : ℕ) (k : Kind) (x0 x1 : ℕ) (s : Shared) (set : List ℕ) (q : Load) (T : Times (List ℕ)) (notes : Notes) (phase : Phase) → Here b s set T → At b s c o (Snip k) q.hand
    → Snips b s x0 x1 (unmarked q.hand.r2) → Fine b (with_snip s x0 x1 (unmarked q.hand.r2)) → Goes c s (with_snip s x0 x1 (unmarked q.hand.r2)) → q.hand.r0 ≡ to x0 → unmarked q.hand.r2 ≡ no_reference → Fits b s T notes c (Snip k) q phase
    → Told b (Access c name) c (with_snip s x0 x1 (unmarked q.hand.r2)) (Snip k) q (absent k) (with_hand q (record q.hand { r1 = unmarked q.hand.r2; r3 = unmarked q.hand.r2 })) T notes phase
told_snip_none b c o name k x0 x1 s set q T notes phase here at p f' g is null (call, w, n, facts) =
    let y = unmarked q.hand.r2 in
    let s' = with_snip s x0 x1 y in
    let z : Snipped b s x0 x1 y set q.hand.n0 = snipped b c o s x0 x1 y q.hand.r0 set q.hand.n0 T here p f' g at.0 is facts.0 in
    let zero_ : y.node ≡ 0 = ap (λ (r : Reference). r.node) null in
    let missing : has q.hand.n0 set ≡ false = missing_now b s' set x0 q.hand.n0 f' z.sorted z.holds z.live z.left.0 z.left.1 (inl (z.next ∙ zero_)) in
    let h = record q.hand { r1 = y; r3 = y } in
    walked b c name s s' set (Snip k) (absent k) k q (with_hand q h) T notes (with_gap T.time notes) phase call here.now z.sorted z.holds (class_absent k) refl refl n
    (tells_snipped c name T.time notes k q (with_hand q h)) (λ log. logs_absent c name T.time k (shown (Snip k) q).running (with_hand q h) log refl) w
    (facts_absent b s' (ticked T (Some c) set) (with_gap T.time notes) c call k h (left_kept b s s' q.hand.r0 q.hand.n0 (seen_key c o s s' q.hand.r0 g at.0) facts.0) (inl zero_) (open_now T c set call w.3)
    (was_now T (Some c) q.hand.n0 false set set here.now missing))

pub told_snip_more : (b c o o' name : ℕ) (k : Kind) (x0 x1 : ℕ) (s : Shared) (set : List ℕ) (q : Load) (T : Times (List ℕ)) (notes : Notes) (phase : Phase) → Here b s set T → At b s c o (Snip k) q.hand
    → Within b (with_snip s x0 x1 (unmarked q.hand.r2)) o' (unmarked q.hand.r2)
    → Snips b s x0 x1 (unmarked q.hand.r2) → Fine b (with_snip s x0 x1 (unmarked q.hand.r2)) → Goes c s (with_snip s x0 x1 (unmarked q.hand.r2)) → q.hand.r0 ≡ to x0 → Fits b s T notes c (Snip k) q phase
    → Told b (Access c name) c (with_snip s x0 x1 (unmarked q.hand.r2)) (Snip k) q (Second k) (with_hand q (record q.hand { r1 = unmarked q.hand.r2; r3 = unmarked q.hand.r2 })) T notes phase
told_snip_more b c o o' name k x0 x1 s set q T notes phase here at at' p f' g is (call, w, n, facts) =
    let y = unmarked q.hand.r2 in
    let s' = with_snip s x0 x1 y in
    let z : Snipped b s x0 x1 y set q.hand.n0 = snipped b c o s x0 x1 y q.hand.r0 set q.hand.n0 T here p f' g at.0 is facts.0 in
    let far : b < y.node = within_inner b s' o' y at' in
    let h = record q.hand { r1 = y; r3 = y } in
    let next = z.next in
    walked b c name s s' set (Snip k) (Second k) k q (with_hand q h) T notes (with_gap T.time notes) phase call here.now z.sorted z.holds refl refl refl n refl (λ log. refl) w (
      left_kept b s s' q.hand.r0 q.hand.n0 (seen_key c o s s' q.hand.r0 g at.0) facts.0,
      subst (λ i. homes b (keys s') i ≡ remainder q.hand.n0 b) z.next (⊎_elim
          (λ (null : (s'.cell x0).next.node ≡ 0). absurd (let no : ⊥ = omega (arith, null, next, far) in no))
          (λ (home : homes b (keys s') (s'.cell x0).next.node ≡ remainder q.hand.n0 b). home)
          (home_next b s' x0 q.hand.n0 z.sorted z.live z.left.0)),
      (
        open_now T c set call w.3,
        λ ahead. was_now T (Some c) q.hand.n0 false set set here.now
            (missing_now b s' set x0 q.hand.n0 f' z.sorted z.holds z.live z.left.0 z.left.1 (subst (λ i. (i ≡ 0) ⊎ (q.hand.n0 < keys s' i)) (sym z.next) ahead)),
      ),
    )
