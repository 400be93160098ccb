-- What closed tables say of every path.
use Rattle.std.proofs.Common.{◌≡◌, ℕ, ◌≤◌, ◌<◌, Bool, true, false, not, ◌&&◌, ◌||◌, List, [], ◌∷◌, Option, Some, None, refl, ap, ◌∙◌, arith}
use Rattle.std.specs.Prelude.{slice_get, IsTrue, nat_le, nat_lt, if◌then◌else◌}
use Rattle.std.specs.List.{list_all}
use Rattle.std.proofs.lemmas.Bool.Decides.{nat_tests}
use Rattle.std.proofs.lemmas.Bool.{or_right, not-true}
use Rattle.norm_lang.specs.declared.text.Reg.{Reg}
use Rattle.norm_lang.specs.declared.text.Instr.{Instr}
use Rattle.norm_lang.specs.Grammar.{is_new}
use Rattle.norm_lang.specs.Flow.{formed_successors, goes_to, goes_from, IsSuccessor, IsCycle, IsOnCycle, IsPath, passed, state_along}
use Rattle.norm_lang.specs.RegisterUse.{is_register_named, registers_named, destination, sets, set_after}
use Rattle.norm_lang.specs.Freshness.{fresh_after}
use Rattle.norm_lang.specs.PathRules.{looks, looks_at, is_blind}
use Rattle.closed_tables.specs.Tables.{Tables, among, registers_at, table_number, keeps_may_be_fresh, keeps_surely_fresh, keeps_set, keeps_level, keeps_rank, keeps_tables, all_from, is_closed}
use Rattle.closed_tables.proofs.Tests.{and_left, and_right, other_holds, all_among, all_next, all_places}
use Rattle.closed_tables.proofs.Along.{along, climbs, Blindly, blind_leads}

-- what each instruction keeps
pub record Keeps (t : Tables) (at : ℕ) (i : Instr) (next : ℕ) : Type 0 where
  pub may_be_fresh : keeps_may_be_fresh t at i next ≡ true
  pub surely_fresh : keeps_surely_fresh t at i next ≡ true
  pub set : keeps_set t at i next ≡ true
  pub level : keeps_level t at i next ≡ true
  pub rank : keeps_rank t at i next ≡ true

keeps_each : (t : Tables) (at : ℕ) (i : Instr) (next : ℕ) → keeps_tables t at i next ≡ true → Keeps t at i next
keeps_each t at i next all =
    let a = keeps_may_be_fresh t at i next in
    let b = keeps_surely_fresh t at i next in
    let c = keeps_set t at i next in
    let d = keeps_level t at i next in
    let e = keeps_rank t at i next in
    let bs = and_right a (b && (c && (d && e))) all in
    let cs = and_right b (c && (d && e)) bs in
    let ds = and_right c (d && e) cs in
    record {
      may_be_fresh = and_left a (b && (c && (d && e))) all;
      surely_fresh = and_left b (c && (d && e)) bs;
      set = and_left c (d && e) cs;
      level = and_left d e ds;
      rank = and_right d e ds;
    }

pub keeps_at : (t : Tables) (code : List Instr) → is_closed t code ≡ true → (at next : ℕ) (i : Instr) → slice_get code at ≡ Some i → IsTrue (goes_to i at next)
    → Keeps t at i next
keeps_at t code closed at next i get goes =
    let places = all_from (λ at i. list_all (keeps_tables t at i) (formed_successors i at)) 0 code in
    let set_start = list_all (λ r. false) (registers_at t.set 0) in
    let all = and_right set_start places (and_right (list_all (λ r. false) (registers_at t.surely_fresh 0)) (set_start && places) closed) in
    keeps_each t at i next
    (all_next (keeps_tables t at i) (formed_successors i at) next (all_places (λ at i. list_all (keeps_tables t at i) (formed_successors i at)) code at i all get) goes)

-- nothing is in a list of which nothing holds
nothing_in : {A : Type 0} (registers : List Reg) (r : Reg) → list_all (λ s. false) registers ≡ true → among r registers ≡ true → A
nothing_in registers r all is = let e : false ≡ true = all_among (λ s. false) registers r all is in absurd (let z : false ≡ true = e in cc)

-- the register that an instruction sets is its destination
set_named : (test : Reg → Bool) (r : Reg) (d : Option Reg) → list_all test (registers_named d) ≡ true → is_register_named r d ≡ true → test r ≡ true
set_named test r None all is = absurd (let z : false ≡ true = is in cc)
set_named test r (Some d) all is = all_among test (d ∷ []) r all (ap (λ b. b || false) is)

pub not_or : (a b : Bool) → (not a || b) ≡ true → a ≡ true → b ≡ true
not_or true b e is = e
not_or false b e is = absurd (let z : false ≡ true = is in cc)

-- a register that may be fresh after an instruction is among those of the next place
may_step : (t : Tables) (at next : ℕ) (i : Instr) (r : Reg) (b was : Bool) → sets r i ≡ b → Keeps t at i next
    → (was ≡ true → among r (registers_at t.may_be_fresh at) ≡ true) → (if b then is_new i else was) ≡ true → among r (registers_at t.may_be_fresh next) ≡ true
may_step t at next i r true was sets_it k here new =
    let new_test = list_all (λ s. among s (registers_at t.may_be_fresh next)) (registers_named (destination i)) in
    let old_test = list_all (λ s. sets s i || among s (registers_at t.may_be_fresh next)) (registers_at t.may_be_fresh at) in
    set_named (λ s. among s (registers_at t.may_be_fresh next)) r (destination i)
    (not_or (is_new i) new_test (and_right old_test (not (is_new i) || new_test) k.may_be_fresh) new) sets_it
may_step t at next i r false was sets_it k here new =
    let new_test = list_all (λ s. among s (registers_at t.may_be_fresh next)) (registers_named (destination i)) in
    let old_test = list_all (λ s. sets s i || among s (registers_at t.may_be_fresh next)) (registers_at t.may_be_fresh at) in
    other_holds (sets r i) (among r (registers_at t.may_be_fresh next))
    (all_among (λ s. sets s i || among s (registers_at t.may_be_fresh next)) (registers_at t.may_be_fresh at) r
    (and_left old_test (not (is_new i) || new_test) k.may_be_fresh) (here new))
    sets_it

pub may_along : (t : Tables) (code : List Instr) (r : Reg) → is_closed t code ≡ true → (path : List ℕ) (to : ℕ) → IsPath code path to
    → state_along (fresh_after r) false code path ≡ true → among r (registers_at t.may_be_fresh to) ≡ true
may_along t code r closed =
    along (fresh_after r) false code (λ at state. state ≡ true → among r (registers_at t.may_be_fresh at) ≡ true)
    (λ no. absurd (let z : false ≡ true = no in cc))
    (λ at next i state get goes here new. may_step t at next i r (sets r i) state refl (keeps_at t code closed at next i get goes) here new)

-- what is surely fresh after an instruction
surely_step : (b new was state : Bool) → (if b then new else was) ≡ true → (was ≡ true → state ≡ true) → (if b then new else state) ≡ true
surely_step true new was state e here = e
surely_step false new was state e here = here e

pub surely_along : (t : Tables) (code : List Instr) (r : Reg) → is_closed t code ≡ true → (path : List ℕ) (to : ℕ) → IsPath code path to
    → among r (registers_at t.surely_fresh to) ≡ true → state_along (fresh_after r) false code path ≡ true
surely_along t code r closed =
    let starts = and_left (list_all (λ s. false) (registers_at t.surely_fresh 0))
    (list_all (λ s. false) (registers_at t.set 0) && all_from (λ at i. list_all (keeps_tables t at i) (formed_successors i at)) 0 code) closed in
    along (fresh_after r) false code (λ at state. among r (registers_at t.surely_fresh at) ≡ true → state ≡ true)
    (λ is. nothing_in (registers_at t.surely_fresh 0) r starts is)
    (λ at next i state get goes here is.
    surely_step (sets r i) (is_new i) (among r (registers_at t.surely_fresh at)) state
    (all_among (λ s. fresh_after s i (among s (registers_at t.surely_fresh at))) (registers_at t.surely_fresh next) r (keeps_at t code closed at next i get goes).surely_fresh is)
    here)

set_step : (b was state : Bool) → (b || was) ≡ true → (was ≡ true → state ≡ true) → (b || state) ≡ true
set_step true was state e here = refl
set_step false was state e here = here e

pub set_along : (t : Tables) (code : List Instr) (r : Reg) → is_closed t code ≡ true → (path : List ℕ) (to : ℕ) → IsPath code path to
    → among r (registers_at t.set to) ≡ true → state_along (set_after r) false code path ≡ true
set_along t code r closed =
    let places = all_from (λ at i. list_all (keeps_tables t at i) (formed_successors i at)) 0 code in
    let set_start = list_all (λ s. false) (registers_at t.set 0) in
    let starts = and_left set_start places (and_right (list_all (λ s. false) (registers_at t.surely_fresh 0)) (set_start && places) closed) in
    along (set_after r) false code (λ at state. among r (registers_at t.set at) ≡ true → state ≡ true)
    (λ is. nothing_in (registers_at t.set 0) r starts is)
    (λ at next i state get goes here is.
    set_step (sets r i) (among r (registers_at t.set at)) state
    (all_among (λ s. set_after s i (among s (registers_at t.set at))) (registers_at t.set next) r (keeps_at t code closed at next i get goes).set is)
    here)

passed_step : (r : Reg) (i : Option Instr) (was state : Bool) → (was ≡ true → state ≡ true) → passed (set_after r) i was ≡ true → passed (set_after r) i state ≡ true
passed_step r None was state here is = here is
passed_step r (Some i) was state here is = set_step (sets r i) was state is here

-- what is set along a path that begins with nothing set is set along it however it begins
pub set_from : (r : Reg) (start : Bool) (code : List Instr) (path : List ℕ) → state_along (set_after r) false code path ≡ true → state_along (set_after r) start code path ≡ true
set_from r start code [] is = absurd (let z : false ≡ true = is in cc)
set_from r start code (last ∷ path) is =
    passed_step r (slice_get code last) (state_along (set_after r) false code path) (state_along (set_after r) start code path) (set_from r start code path) is

still_set : (r : Reg) (i : Option Instr) (state : Bool) → state ≡ true → passed (set_after r) i state ≡ true
still_set r None state is = is
still_set r (Some i) state is = or_right (sets r i) state is

-- what is set at the start stays set
pub set_stays : (r : Reg) (code : List Instr) (path : List ℕ) → state_along (set_after r) true code path ≡ true
set_stays r code [] = refl
set_stays r code (last ∷ path) = still_set r (slice_get code last) (state_along (set_after r) true code path) (set_stays r code path)

le_from : (a b : ℕ) → nat_le a b ≡ true → a ≤ b
le_from a b e = grind (arith, nat_tests, e)

lt_from : (a b : ℕ) → nat_lt a b ≡ true → a < b
lt_from a b e = grind (arith, nat_tests, e)

level_by : (t : Tables) (code : List Instr) → is_closed t code ≡ true → (at next : ℕ) (found : Option Instr) → slice_get code at ≡ found → IsTrue (goes_from found at next)
    → table_number t.level at ≤ table_number t.level next
level_by t code closed at next None get goes = absurd (let z : false ≡ true = goes in cc)
level_by t code closed at next (Some i) get goes =
    let le = nat_le (table_number t.level at) (table_number t.level next) in
    le_from (table_number t.level at) (table_number t.level next)
    (and_left le (not (is_new i) || nat_lt (table_number t.level at) (table_number t.level next)) (keeps_at t code closed at next i get goes).level)

level_new : (t : Tables) (code : List Instr) (i : Instr) → is_closed t code ≡ true → is_new i ≡ true → (at next : ℕ) (found : Option Instr) → found ≡ Some i → slice_get code at ≡ found
    → IsTrue (goes_from found at next) → table_number t.level at < table_number t.level next
level_new t code i closed new at next None same get goes = absurd (let z : false ≡ true = goes in cc)
level_new t code i closed new at next (Some j) same get goes =
    let e : j ≡ i = (let z : Some j ≡ Some i = same in cc) in
    let le = nat_le (table_number t.level at) (table_number t.level next) in
    lt_from (table_number t.level at) (table_number t.level next)
    (not_or (is_new j) (nat_lt (table_number t.level at) (table_number t.level next))
    (and_right le (not (is_new j) || nat_lt (table_number t.level at) (table_number t.level next)) (keeps_at t code closed at next j get goes).level)
    (ap is_new e ∙ new))

less_than_itself : (n : ℕ) → n < n → ⊥
less_than_itself n lt = omega (arith, lt)

-- no `new` lies on a cycle
pub new_once : (t : Tables) (code : List Instr) (at : ℕ) (i : Instr) → is_closed t code ≡ true → slice_get code at ≡ Some i → is_new i ≡ true → IsOnCycle code at → ⊥
new_once t code at i closed get new cycle = of cycle.0 cycle.1 where
  of : (path : List ℕ) → IsCycle code path at → ⊥
  of [] is = is
  of (last ∷ path) is =
      less_than_itself (table_number t.level at)
      (climbs (IsSuccessor code) (table_number t.level) at
      (λ here next goes. level_by t code closed here next (slice_get code here) refl goes.0)
      (λ next goes. level_new t code i closed new at next (slice_get code at) get refl goes.0)
      last path at is)

rank_by : (t : Tables) (code : List Instr) → is_closed t code ≡ true → (at next : ℕ) (found : Option Instr) → slice_get code at ≡ found → IsTrue (goes_from found at next)
    → not (looks_at found) ≡ true → table_number t.rank at < table_number t.rank next
rank_by t code closed at next None get goes blind = absurd (let z : false ≡ true = goes in cc)
rank_by t code closed at next (Some i) get goes blind =
    lt_from (table_number t.rank at) (table_number t.rank next)
    (other_holds (looks i) (nat_lt (table_number t.rank at) (table_number t.rank next)) (keeps_at t code closed at next i get goes).rank (not-true (looks i) blind))

at_most : (a b : ℕ) → a < b → a ≤ b
at_most a b lt = omega (arith, lt)

-- on each cycle an instruction looks
pub cycle_looks : (t : Tables) (code : List Instr) (at : ℕ) (path : List ℕ) → is_closed t code ≡ true → IsCycle code path at → IsTrue (is_blind code path) → ⊥
cycle_looks t code at [] closed cycle blind = cycle
cycle_looks t code at (last ∷ path) closed cycle blind =
    less_than_itself (table_number t.rank at)
    (climbs (Blindly code) (table_number t.rank) at
    (λ here next goes. at_most (table_number t.rank here) (table_number t.rank next) (rank_by t code closed here next (slice_get code here) refl goes.0.0 goes.1))
    (λ next goes. rank_by t code closed at next (slice_get code at) refl goes.0.0 goes.1)
    last path at (blind_leads code at (last ∷ path) at cycle blind))
