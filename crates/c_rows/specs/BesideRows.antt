-- Claims beside other callers: the lines are told the words that these left.
use Rattle.std.specs.Prelude.{◌≡◌, ℕ, Bool, true, false, List, [], ◌∷◌, Some, None, slice_index, ◌==◌}
use Rattle.oa_words.specs.Words.{Phase, Warning, Hazard, Status, Head, Link}
use Rattle.phase_pools.specs.Accesses.{Loads, Stores, Exchanges}
use Rattle.c_language.specs.Steps.{Frame}
use Rattle.c_language.specs.Threads.{kept_begun, frame_begun}
use Rattle.c_runtime.specs.Laws.{claim_code}
use Rattle.c_rows.specs.Running.{Heard, lines_told}
use Rattle.c_rows.specs.ClaimRows.{small, pool_of}

abbrev pub told : Frame → List ℕ → Heard
told f words = lines_told (pool_of small 9) (claim_code (pool_of small 9) 0) 100 f words

-- a claim from its first line on
abbrev pub claim_begun : Frame
claim_begun = frame_begun [] kept_begun

-- a sweep that raises to a phase, at a line, and at a slot whose kind is known; no bit is set
abbrev pub sweep_at : (at bound slot : ℕ) → Frame
sweep_at at bound slot = record { at = at; locals = slice_index (0 ∷ 0 ∷ slot ∷ 0 ∷ 0 ∷ 0 ∷ bound ∷ []); kept = kept_begun }

abbrev pub none : List Bool
none = false ∷ false ∷ false ∷ false ∷ []

pub record BesideRows : Type 0 where
  -- another caller took slot 2 after the head was loaded: the look begins again, and takes slot 3
  pub lost_take : told claim_begun (8194 ∷ 3 ∷ 8195 ∷ 8195 ∷ 0 ∷ 8195 ∷ 4 ∷ []) ≡ record {
    accesses = Loads (Head 0) ∷ Loads (Link 2) ∷ Exchanges (Head 0) 8194 8195 ∷ Loads (Head 0) ∷ Loads (Link 3) ∷ Exchanges (Head 0) 8195 8192
        ∷ Stores (Status 3) 5 ∷ [];
    next = None;
    returned = Some 3;
    noted = none;
  }
  -- slot 2 was taken and pushed again under phase 2, with another link: it is on top as before, and isn't taken for it
  pub slot_that_came_back : told claim_begun (8194 ∷ 3 ∷ 16386 ∷ 16386 ∷ 1 ∷ 16386 ∷ []) ≡ record {
    accesses = Loads (Head 0) ∷ Loads (Link 2) ∷ Exchanges (Head 0) 8194 8195 ∷ Loads (Head 0) ∷ Loads (Link 2) ∷ Exchanges (Head 0) 16386 16385 ∷ [];
    next = Some (Stores (Status 2) 9);
    returned = None;
    noted = none;
  }
  -- the last slot went to another caller: the look has ended, and a sweep begins
  pub lost_last_slot : told claim_begun (8195 ∷ 0 ∷ 8192 ∷ 8192 ∷ []) ≡ record {
    accesses = Loads (Head 0) ∷ Loads (Link 3) ∷ Exchanges (Head 0) 8195 8192 ∷ Loads (Head 0) ∷ [];
    next = Some (Loads Phase);
    returned = None;
    noted = none;
  }
  -- a raise to 5: the word is 7 already, so the load is the raise
  pub high_warning : told (sweep_at 22 5 0) (7 ∷ []) ≡ record {
    accesses = Loads (Warning 0) ∷ [];
    next = Some (Loads (Hazard 0 0));
    returned = None;
    noted = none;
  }
  -- it is 3: the exchange that finds 3 again is the raise
  pub low_warning : told (sweep_at 22 5 0) (3 ∷ 3 ∷ []) ≡ record {
    accesses = Loads (Warning 0) ∷ Exchanges (Warning 0) 3 5 ∷ [];
    next = Some (Loads (Hazard 0 0));
    returned = None;
    noted = none;
  }
  -- another caller raised it to 4 meanwhile: it is loaded again, and found to be 9
  pub lost_raise : told (sweep_at 22 5 0) (3 ∷ 4 ∷ 9 ∷ []) ≡ record {
    accesses = Loads (Warning 0) ∷ Exchanges (Warning 0) 3 5 ∷ Loads (Warning 0) ∷ [];
    next = Some (Loads (Hazard 0 0));
    returned = None;
    noted = none;
  }
  -- hazard 6 names slot 2, and the others null
  pub noted_hazard : told (sweep_at 30 5 0) (0 ∷ 0 ∷ 0 ∷ 0 ∷ 0 ∷ 0 ∷ 2 ∷ 0 ∷ []) ≡ record {
    accesses = Loads (Hazard 0 0) ∷ Loads (Hazard 0 1) ∷ Loads (Hazard 0 2) ∷ Loads (Hazard 0 3) ∷ Loads (Hazard 0 4) ∷ Loads (Hazard 0 5)
        ∷ Loads (Hazard 0 6) ∷ Loads (Hazard 0 7) ∷ [];
    next = Some (Loads (Status 3));
    returned = None;
    noted = true ∷ false ∷ true ∷ false ∷ [];
  }
  -- slots 3 and 2 were retired in phase 2, and slot 2 is noted: another sweep makes slot 3 ready, slot 2 is left, and no bit is set
  pub noted_slot : told (record { at = 38; locals = slice_index (0 ∷ 0 ∷ 3 ∷ 0 ∷ 0 ∷ 0 ∷ 3 ∷ []); kept = record { noted = λ j. j == 2; cradles = λ k. 0 } }) (10 ∷ 12 ∷ 10 ∷ []) ≡ record {
    accesses = Loads (Status 3) ∷ Exchanges (Status 3) 10 12 ∷ Loads (Status 2) ∷ [];
    next = Some (Loads (Status 1));
    returned = None;
    noted = none;
  }
  -- after the head was loaded with slot 1 on top, another slot came on top: the push begins again, and stores the link again
  pub lost_push : told (sweep_at 54 3 2) (16385 ∷ 0 ∷ 16387 ∷ 16387 ∷ 1 ∷ 16387 ∷ []) ≡ record {
    accesses = Loads (Head 0) ∷ Stores (Link 2) 1 ∷ Exchanges (Head 0) 16385 24578 ∷ Loads (Head 0) ∷ Stores (Link 2) 3 ∷ Exchanges (Head 0) 16387 24578 ∷ [];
    next = Some (Loads (Status 1));
    returned = None;
    noted = none;
  }
  -- a head with a greater phase than the sweep's keeps it; after slot 1 the sweep has ended, and a look follows
  pub greater_phase : told (sweep_at 54 3 1) (40962 ∷ 0 ∷ 40962 ∷ []) ≡ record {
    accesses = Loads (Head 0) ∷ Stores (Link 1) 2 ∷ Exchanges (Head 0) 40962 40961 ∷ [];
    next = Some (Loads (Head 0));
    returned = None;
    noted = none;
  }
  -- a slot that another sweep made ready is pushed by that one
  pub lost_slot : told (sweep_at 38 3 3) (6 ∷ 12 ∷ []) ≡ record {
    accesses = Loads (Status 3) ∷ Exchanges (Status 3) 6 12 ∷ [];
    next = Some (Loads (Status 2));
    returned = None;
    noted = none;
  }
