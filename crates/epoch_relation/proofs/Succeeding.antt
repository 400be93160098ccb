-- An exchange of an announced caller that succeeds in both machines: an auxiliary one, or one of a list.
use Rattle.std.proofs.Common.{ℕ, suc, ◌≡◌, ◌≢◌, ◌⊎◌, ◌∙◌, true, false, Some, None, sym, ap, refl}
use Rattle.std.specs.Prelude.{is_some}
use Rattle.norm_lang.specs.declared.text.CasEntry.{CasEntry}
use Rattle.norm_lang.specs.declared.text.Reg.TheVariants.{Ref}
use Rattle.norm_lang.specs.declared.text.Place.{Place}
use Rattle.norm_lang.specs.declared.text.Place.TheVariants as places
use Rattle.norm_lang.specs.declared.registers.Registers.{Registers}
use Rattle.norm_lang.specs.Registers.{reference_in, node_in}
use Rattle.norm_lang.specs.InstructionRules.{has_wrong_operand, is_stranger}
use Rattle.norm_lang.specs.KindFields.{place_of}
use Rattle.oa_words.specs.Words.{Word, Phase, Warning}
use Rattle.phase_pools.specs.Accesses.{word_of}
use Rattle.source_machine.specs.declared.state.Memory.{Memory}
use Rattle.source_machine.specs.declared.state.Value.{Value}
use Rattle.source_machine.specs.Memory.{value_in, exchange}
use Rattle.source_machine.specs.Proper.{IsOnce}
use Rattle.source_machine.specs.MethodRuns.{name_in}
use Rattle.caller_parts.specs.Operands.{succeeds, to_retire}
use Rattle.caller_steps.specs.Wants.{exchange_wanted}
use Rattle.oa_simulation.specs.sim_relation.Views.{Plan, Held, Shared, Resident, link, word_for}
use Rattle.oa_simulation.specs.sim_relation.Callers.{Shown, IsRetiring}
use Rattle.chain_laws.specs.Memories.{after_access}
use Rattle.oa_simulation.proofs.sim_steps.Pools.Phases.{with_words}
use Rattle.oa_simulation.proofs.sim_steps.Exchanges.Exchanging.{IsAtHand, Offers}
use Rattle.oa_simulation.proofs.sim_steps.Exchanges.Entering.{published_if}
use Rattle.oa_simulation.proofs.sim_steps.Exchanges.Placing.{place_memory, words_written}
use Rattle.oa_simulation.proofs.sim_steps.Exchanges.Done.{Tried, Done, by_retirement}
use Rattle.epoch_relation.specs.Reckoned.{reckoned_words, reckoned, EpochHolds}
use Rattle.epoch_relation.specs.Callers.{Caller, Changes}
use Rattle.epoch_relation.proofs.Exchanging.{reckoned_offers, both_succeed}
use Rattle.epoch_relation.proofs.Local.{Standing}
use Rattle.epoch_relation.proofs.Storing.{SameWords, holds_stored, goes_words, reckoned_cell, reckoned_field}

-- ---- the words that it writes, as a sweep reckons with them

reckoned_place : (t : Plan) (memory : Word → ℕ) (since : ℕ → ℕ) (mirror : Registers) (p : Place) (v : Value) → SameWords (place_memory t (reckoned_words memory since) mirror p v) (reckoned_words (place_memory t memory mirror p v) since)
reckoned_place t memory since mirror (places.Root z) v = reckoned_cell memory since z (word_for t.home v)
reckoned_place t memory since mirror (places.Field a f) v = reckoned_field memory since (t.home (reference_in mirror a).node) (place_of t.text.fields f) (word_for t.home v)

place_phase : (t : Plan) (memory : Word → ℕ) (mirror : Registers) (p : Place) (v : Value) → place_memory t memory mirror p v Phase ≡ memory Phase
place_phase t memory mirror (places.Root z) v = refl
place_phase t memory mirror (places.Field a f) v = refl

place_warning : (t : Plan) (memory : Word → ℕ) (mirror : Registers) (p : Place) (v : Value) (d : ℕ) → place_memory t memory mirror p v (Warning d) ≡ memory (Warning d)
place_warning t memory mirror (places.Root z) v d = refl
place_warning t memory mirror (places.Field a f) v d = refl

-- ---- the exchange

-- what holds before it; `p` is the name that it publishes, or null for none
pub record Tries (t : Plan) (s : Shared) (since : ℕ → ℕ) (c : ℕ) (x : Caller) (mirror : Registers) (entry : CasEntry) (p : ℕ) (after : Memory) : Type 0 where
  pub standing : Standing t s since c x
  pub offers : Offers t s c x.entry.hand.registers mirror entry
  pub right : has_wrong_operand t.text.fields t.text.roots entry ≡ false
  pub publishes : IsAtHand t s c p
  pub known : (name_in (value_in mirror entry.replacement) ≡ 0) ⊎ ((published_if t s p).public (name_in (value_in mirror entry.replacement)) ≡ true)
  pub object : (r f : ℕ) → entry.place ≡ places.Field (Ref r) f → Shown s (node_in mirror r)
  pub kin : is_stranger entry entry.retire ≡ false
  pub makes : exchange t.text.fields entry mirror s.source ≡ Some after
  pub once : IsOnce after.retired

-- what is shared after it
pub record Made (t : Plan) (s s' : Shared) (since : ℕ → ℕ) (c : ℕ) (core mirror : Registers) (entry : CasEntry) (p : ℕ) : Type 0 where
  pub holds : EpochHolds t s' since
  pub goes : Changes t c s since s' since
  pub memory : s'.memory ≡ after_access s.memory (exchange_wanted t.target.fields entry core)
  pub makes : exchange t.text.fields entry mirror s.source ≡ Some s'.source
  pub present : s'.present ≡ s.present
  pub unused : s'.unused ≡ s.unused
  pub tag : s'.tag ≡ s.tag
  pub warning : s'.memory (Warning c) ≡ s.memory (Warning c)
  pub links : (n g : ℕ) → (link s' n g ≡ link s n g) ⊎ Resident t s (link s' n g)
  pub public : (n : ℕ) → s.public n ≡ true → s'.public n ≡ true
  pub published : p ≢ 0 → s'.public p ≡ true
  pub owns : (j k : ℕ) → (p ≢ 0 → j ≢ t.home p) → s.owner j ≡ Held c k → s'.owner j ≡ Held c k

module _ (t : Plan) (s : Shared) (since : ℕ → ℕ) (c : ℕ) (x : Caller) (mirror : Registers) (entry : CasEntry) (p : ℕ) (after : Memory) (w : Tries t s since c x mirror entry p after) where
  pub succeeded : succeeds entry x.entry.hand.registers (s.memory (word_of (exchange_wanted t.target.fields entry x.entry.hand.registers))) ≡ true
  succeeded = both_succeed t s since c x.entry.hand.registers mirror entry w.standing.plan w.standing.holds w.offers ∙ ap is_some w.makes

  tried : Tried t (reckoned s since) c x.entry.hand.registers mirror entry p after
  tried = record {
    null = w.standing.plan.null;
    shared_holds = w.standing.holds.holds;
    offers = reckoned_offers t s since c x.entry.hand.registers mirror entry w.offers;
    right = w.right;
    publishes = w.publishes;
    known = w.known;
    object = w.object;
    kin = w.kin;
    makes = w.makes;
    once = w.once;
  }

  abbrev words : Word → ℕ
  words = place_memory t s.memory mirror entry.place (value_in mirror entry.replacement)

  same_words : (q : Shared) → Done t (reckoned s since) q c x.entry.hand.registers mirror entry p → SameWords q.memory (reckoned_words words since)
  same_words q d i = reckoned_place t s.memory since mirror entry.place (value_in mirror entry.replacement) i ∙ sym (ap (λ (m : Word → ℕ). m i) d.memory)

  made : (q : Shared) → Done t (reckoned s since) q c x.entry.hand.registers mirror entry p → Made t s (with_words q words) since c x.entry.hand.registers mirror entry p
  made q d =
      let phase = place_phase t s.memory mirror entry.place (value_in mirror entry.replacement) in
      let warning = place_warning t s.memory mirror entry.place (value_in mirror entry.replacement) in
      record {
        holds = holds_stored t s q since words w.standing.holds (same_words q d) phase warning (λ i r. ap (λ (f : ℕ → ℕ → ℕ). f i r) d.protects ∙ w.standing.holds.unguarded i r) d.shared_holds;
        goes = record { goes = goes_words t c (reckoned s since) q (reckoned_words words since) (same_words q d) d.goes; warning = λ i ne. warning i; stays = λ i ne. refl; retired = d.retired };
        memory = sym (words_written t s c x.entry.hand.registers mirror entry w.offers succeeded);
        makes = d.makes;
        present = d.present;
        unused = d.unused;
        tag = d.tag;
        warning = warning c;
        links = d.left.links;
        public = d.left.public;
        published = d.public;
        owns = d.owns;
      }

  -- `Follows` holds of the slot to retire, if it does both when nothing is retired and when a name is
  pub made_by : (Follows : ℕ → Type 0) → ((s' : Shared) → Made t s s' since c x.entry.hand.registers mirror entry p → Follows 0)
      → ((s' : Shared) (j n : ℕ) → Made t s s' since c x.entry.hand.registers mirror entry p → IsRetiring s' c (suc j) n None → Follows (suc j)) → Follows (to_retire entry.retire x.entry.hand.registers)
  made_by Follows none one = by_retirement t (reckoned s since) c x.entry.hand.registers mirror entry p after tried Follows
      (λ q d slot. none (with_words q words) (made q d))
      (λ q j n d retiring slot. one (with_words q words) j n (made q d) (record { owner = retiring.owner; present = retiring.present; tag_is = retiring.tag_is }))
