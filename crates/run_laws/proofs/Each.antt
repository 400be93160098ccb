-- The states on the way of a run.
use Rattle.std.proofs.Common.{List, [], ◌++◌, sym, ap, ◌∙◌, append_assoc, append-nil}
use Rattle.core_runs.specs.Machine.{CoreEvent, OfAll}
use Rattle.run_laws.specs.Each.{EachIsOnTheWay}

pub each_is_on_the_way : OfAll EachIsOnTheWay
each_is_on_the_way target setting = record {
  last = λ test events state each runs. each events [] state (append-nil events) runs;
  earlier = λ test first rest each before later there part runs.
      each before (later ++ rest) there (sym (append_assoc before later rest) ∙ ap (λ (l : List CoreEvent). l ++ rest) part) runs;
}
