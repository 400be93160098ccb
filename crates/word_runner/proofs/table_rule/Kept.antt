-- Each kind of step keeps the rule.
use Rattle.std.proofs.Common.{◌≡◌, ℕ, List, ◌∙◌}
use Rattle.std.specs.Prelude.{slice_index}
use Rattle.atomic_table.specs.Table.{Final, Seen}
use Rattle.word_runner.specs.table_rule.Seen.{Fixed, SeatView}
use Rattle.word_runner.specs.table_rule.Rule.{Holds}
use Rattle.word_runner.specs.table_rule.Closing.{Shut}
use Rattle.word_runner.specs.table_rule.Laws.{StepsKeepRule}
use Rattle.word_runner.proofs.table_rule.Accesses.{may_make}
use Rattle.word_runner.proofs.table_rule.Parting.{none_comes, none_split}
use Rattle.word_runner.proofs.table_rule.Others.{split_kept, join_kept, look_allowed, try_allowed, opens, closes}

shuts : (key : Fixed) (id phase : ℕ) (v : SeatView) (words slots : List ℕ) → Final (Seen (Holds key) id v) words slots → phase ≡ slice_index words 0 → Shut key v phase
shuts key id phase v words slots f is =
    let c = closes key id v words slots f in
    record { good = c.good; core = c.core; reachable = c.reachable; phase_is = is ∙ c.phase; here = c.here }

pub steps_keep_rule : (key : Fixed) → StepsKeepRule key
steps_keep_rule key = record {
  accesses = λ slots id me e access good can. may_make key slots id me e access good can;
  tries = λ slots id word me can is. try_allowed key slots id word me is can.bare can.live can.fixed can.empty can.more;
  splits = λ id v live. split_kept key id v live;
  joins = λ id v other w live. join_kept key id v other w live;
  looks = λ slots id me live fixed. look_allowed key slots id me live fixed;
  opens = λ words good is. opens key words good is;
  comes = λ words w s h later. none_comes s.views w h.whole later.whole;
  keeps = λ words id v left w s h at same later. none_split s.views id v left w h.whole at same later.whole;
  closes = λ id phase v words slots f is. shuts key id phase v words slots f is;
}
