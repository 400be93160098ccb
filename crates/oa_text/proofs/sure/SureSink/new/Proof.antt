-- A walk: the struct has no bytes of its own, and nothing is told yet.
use Rattle.std.proofs.Common.{[], ◌∷◌, refl}
use Rattle.std.proofs.raw_atomic.Walks.{proved}
use mir.Val.{vstruct, vnil}
use types.Kit.{‵, raw, ◌$◌, ◌∵◌, !, qed, keep, suffices, done}
use types.Run.{no_more, enter, returns}
use types.Part.{agg}
use types.ByLocal.{alloc_all, pass_all, free_all, look_at, sets}
use base.Fml.{ftrue}
use denote.Shadow.{pure_i}
use denote.Steps.{nothing}
use denote.Triple.Entry.{on_entry}
use denote.Triple.Walked.{Stays, says, ends_at}
use Rattle.oa_text.specs.contracts.sure.SureSink.{the_row}
use Rattle.oa_text.specs.contracts.sure.SureSink.new as f
use Rattle.oa_text.proofs.sure.SureSink.new.Statement.{statement}
use Rattle.oa_text.proofs.sure.SureSink.new.Code as code

abbrev stayed : Stays f.ended.signature.params f.ended.kept
stayed = tt

pub new_spec : {M : Type 1} → statement M
new_spec 𝓤 𝓛 𝓜 𝓡 wired =
    let c = f.clauses 𝓛 𝓜.mem 𝓡.returns in
    proved 𝓛 f.ended stayed c 𝓜 𝓡 tt f.Key.name code.function (code.unfolded 𝓤 𝓛.H 𝓜 𝓡 wired)
    (λ κs. tt) (λ κs. tt) (λ κs qs bounds a _ are.
    qed 𝓛 (raw (on_entry 𝓛 f.signature κs qs a tt) ∷ ‵ ftrue ∷ []) ∵ keep ! [] $
    enter ! _ _ _ _ _ $ alloc_all ! (λ l. pass_all ! refl tt $
    sets ! (agg ! (no_more !)) refl (tt, tt) $
    returns ! (look_at ! 0 refl) $ free_all ! refl $
    suffices ! _ (ends_at 𝓛 f.ended stayed c ((κs, qs, bounds, a, tt), tt) (vstruct vnil) [] tt tt) $ says ! refl $
    pure_i ! (the_row.own_val [] (vstruct vnil ∷ [])) (λ a. (((λ vss. (tt, tt)), tt), tt)) ((record { bytes = [] }, (refl, tt)), (((tt, (refl, tt)), tt), tt)) $
    nothing ! $ nothing ! $ done !))
