-- The top of a chain, from a load of its head to an exchange that finds it again.
use Rattle.std.proofs.Common.{ℕ, ◌≡◌, ◌≢◌, ◌≤◌, ◌<◌, ◌∙◌, length, arith, inl, inr, ⊎_elim, sym, ap, subst}
use Rattle.oa_words.specs.Words.{Head, Link, Sizes}
use Rattle.oa_words.specs.SlotKinds.{kind_of}
use Rattle.oa_words.specs.Packed.{head_word}
use Rattle.oa_words.specs.Starts.{Beginning}
use Rattle.chain_laws.specs.Chains.{Owner, Chained, stamp, times, once}
use Rattle.chain_laws.specs.Standing.{ComesAbove, Gone}
use Rattle.chain_laws.specs.Machine.{PoolState, pool_start}
use Rattle.chain_laws.specs.Laws.{Holds, ChainsStand, Seen, TopsStand, OfAll}
use Rattle.chain_laws.proofs.Changes.{tells, top_chained, in_kind, once_here}
use Rattle.chain_laws.proofs.Start.{start_holds}
use Rattle.chain_laws.proofs.Runs.{run_holds, run_stamp, run_gone, run_stands, StillOrGone}

pub chains_stand : OfAll ChainsStand
chains_stand n last start are most fit memory starts events state is = run_holds n last events (pool_start n start memory) state are most (start_holds n start memory are most fit starts) is

-- if a kind's head is (q, t), slot t isn't gone
pub not_gone : (n : Sizes) (state : PoolState) (k q t : ℕ) → Holds n state → k < length n.kinds → state.memory (Head k) ≡ head_word n.tops q t → t < n.tops → t ≢ 0 → Gone n state.memory state.hands q t → ⊥
not_gone n state k q t w lt is small some (inl less) =
    let here = tells n.tops state.memory k q t is small in
    let stamped : stamp n.tops state.memory (kind_of n t) ≡ q = ap (stamp n.tops state.memory) (top_chained n state.memory state.hands k t lt w.fine here.1 some).1 ∙ here.0 in
    let no : ⊥ = omega (arith, stamped, less) in no
not_gone n state k q t w lt is small some (inr above) =
    subst (λ (o : Owner). ComesAbove q o) (top_chained n state.memory state.hands k t lt w.fine (tells n.tops state.memory k q t is small).1 some).0 above

module _ (n : Sizes) (last : ℕ) (start : Beginning) (k q t : ℕ) (e : Seen n last start k q t) where
  at_loaded : Holds n e.loaded
  at_loaded = chains_stand n last start e.kinds e.slots e.nodes e.memory e.starts e.before e.loaded e.leads

  -- the top was of the kind, in its chain
  loaded_top : (e.loaded.hands.owner t ≡ Chained) × (kind_of n t ≡ k)
  loaded_top = top_chained n e.loaded.memory e.loaded.hands k t e.kind at_loaded.fine (tells n.tops e.loaded.memory k q t e.head e.small).1 e.some

  loaded_stamp : q ≤ stamp n.tops e.loaded.memory (kind_of n t)
  loaded_stamp = let is : stamp n.tops e.loaded.memory (kind_of n t) ≡ q = ap (stamp n.tops e.loaded.memory) loaded_top.1 ∙ (tells n.tops e.loaded.memory k q t e.head e.small).0 in omega (arith, is)

  -- what is known at the moment between
  between : StillOrGone n e.loaded e.between q t
  between = run_stands n last e.events e.loaded e.between q t e.kinds e.slots at_loaded e.goes loaded_stamp loaded_top.0

  at_between : Holds n e.between
  at_between = run_holds n last e.events e.loaded e.between e.kinds e.slots at_loaded e.goes

  at_later : Holds n e.later
  at_later = run_holds n last e.more e.between e.later e.kinds e.slots at_between e.ends

  -- a slot that is gone then stays so
  gone_later : Gone n e.between.memory e.between.hands q t → Gone n e.later.memory e.later.hands q t
  gone_later gone =
      let up = run_stamp n last e.events e.loaded e.between e.kinds e.slots at_loaded e.goes (kind_of n t) in
      let le = loaded_stamp in
      run_gone n last e.more e.between e.later q t e.kinds e.slots at_between e.ends (omega (arith, le, up)) gone

  -- how often it stands in the chain between
  times_between : e.between.hands.owner t ≡ Chained → times t (e.between.hands.chain k) ≡ 1
  times_between own = at_between.fine.stands k t ∙ (once_here n k t (e.between.hands.owner t) loaded_top.1 ∙ ap once own)

  pub stood : e.later.memory (Head k) ≡ head_word n.tops q t → (times t (e.between.hands.chain k) ≡ 1) × (e.between.memory (Link t) ≡ e.loaded.memory (Link t))
  stood is = ⊎_elim
      (λ (still : (e.between.hands.owner t ≡ Chained) × (e.between.memory (Link t) ≡ e.loaded.memory (Link t))). (times_between still.0, still.1))
      (λ (gone : Gone n e.between.memory e.between.hands q t). absurd (not_gone n e.later k q t at_later e.kind is e.small e.some (gone_later gone)))
      between

  over : Gone n e.later.memory e.later.hands q t → e.later.hands.owner t ≡ Chained → q < stamp n.tops e.later.memory k
  over (inl lt) own = subst (λ (i : ℕ). q < stamp n.tops e.later.memory i) loaded_top.1 lt
  over (inr up) own = absurd (subst (λ (o : Owner). ComesAbove q o) own up)

  pub above : times t (e.between.hands.chain k) ≡ 0 → times t (e.later.hands.chain k) ≡ 1 → q < stamp n.tops e.later.memory k
  above left back =
      let own = (in_kind n k t (e.later.hands.owner t) (λ z. let one : 1 ≡ 0 = sym back ∙ (at_later.fine.stands k t ∙ z) in let no : ⊥ = omega (arith, one) in no)).0 in
      over (⊎_elim
      (λ (still : (e.between.hands.owner t ≡ Chained) × (e.between.memory (Link t) ≡ e.loaded.memory (Link t))). let one : 1 ≡ 0 = sym (times_between still.0) ∙ left in let no : ⊥ = omega (arith, one) in absurd no)
      (λ (gone : Gone n e.between.memory e.between.hands q t). gone_later gone)
      between) own

pub tops_stand : OfAll TopsStand
tops_stand n last start = record { stood = λ k q t e. stood n last start k q t e; above = λ k q t e. above n last start k q t e }
