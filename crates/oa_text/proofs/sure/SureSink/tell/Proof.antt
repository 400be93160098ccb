-- A walk: the body is empty. The borrow is opened, and closed at the bytes with the piece after them.
use Rattle.std.proofs.Common.{◌≡◌, [], ◌∷◌, ◌++◌, refl}
use Rattle.std.proofs.raw_atomic.Walks.{proved}
use mir.Syntax.{named}
use mir.Val.{vunit}
use types.Kit.{‵, fpick, fpack, ◌⊛◌, ◌$◌, ◌∵◌, !, qed, move, keep, split, fsplit3, join, fjoin, fjoin3, feq_i, frame, suffices, done}
use types.Run.{enter, of_opd, unit_lit, returns}
use types.ByLocal.{alloc_all, pass_all, free_all, look_at, sets}
use base.Fml.{ftrue, fsep, flft}
use denote.Exit.{yes}
use denote.Builtin.{u8}
use denote.RattleType.{owns}
use denote.Ref.{MutRef, mut_vals, mut_Tells}
use denote.Signature.{plain}
use denote.Slice.{ShrSlice, shr_slice_vals, shr_slice_Tells}
use denote.Steps.{opens, closes}
use denote.Triple.Walked.{Stays, walk_of, says, stay_ref, stay_none_slice, Goes-ref, Goes-none_slice, ends_at}
use Rattle.oa_text.specs.declared.sure.SureSink.TheInside.{Inside}
use Rattle.oa_text.specs.contracts.sure.SureSink.{the_row}
use Rattle.oa_text.specs.contracts.sure.SureSink.TheInside.{the_row as inside}
use Rattle.oa_text.specs.contracts.sure.SureSink.tell as f
use Rattle.oa_text.proofs.sure.SureSink.tell.Statement.{statement}
use Rattle.oa_text.proofs.sure.SureSink.tell.Code as code

abbrev stayed : Stays f.ended.signature.params f.ended.kept
stayed = (stay_ref (0 ∷ []) tt (plain (λ _. the_row)), (stay_none_slice (1 ∷ []) tt (plain (λ _. u8)) yes, tt))

pub tell_spec : {M : Type 1} → statement M
tell_spec 𝓤 𝓛 𝓜 𝓡 wired =
    let c = f.clauses 𝓛 𝓜.mem 𝓡.returns in
    proved 𝓛 f.ended stayed c 𝓜 𝓡 (Goes-ref 𝓛 2 0 tt (plain (λ _. the_row)), (Goes-none_slice 𝓛 2 (1 ∷ []) tt (plain (λ _. u8)) yes, tt))
    f.Key.name code.function (code.unfolded 𝓤 𝓛.H 𝓜 𝓡 wired)
    (λ κs. (mut_vals, (shr_slice_vals, tt))) (λ κs. (mut_Tells (named 0) κs.0 the_row, (shr_slice_Tells (named 1) κs.1.0 u8, tt)))
    (λ κs qs bounds a _ are.
    let b = a.0.ref_ptr.0 in let o = a.0.ref_ptr.1 in let told = a.0.now in let piece = a.1.0.now in
    let y : (walk_of 𝓛 f.ended stayed c).Ghost = ((κs, qs, bounds, a, (mut_vals a.0, (shr_slice_vals a.1.0, tt))), tt) in
    qed 𝓛 (((‵ (flft κs.0 qs.0) ⊛ (‵ (flft κs.1.0 qs.1.0) ⊛ ‵ ftrue)) ⊛ (‵ ((MutRef (named 0) κs.0 the_row).own_val a.0 y.0.4.0) ⊛ ‵ (owns (ShrSlice (named 1) κs.1.0 u8 ∷ []) a.1 y.0.4.1))) ∷ ‵ ftrue ∷ []) ∵
    split ! $ split ! $ move ! (2 ∷ []) $ split ! $ keep ! (0 ∷ 2 ∷ 3 ∷ 1 ∷ []) $
    -- [self; its token; the other token; the piece]
    enter ! _ _ _ _ _ $ alloc_all ! (λ l. pass_all ! refl ((tt, tt), ((tt, (tt, (record { fits = are.1.0.0.1.0 }, tt))), tt)) $
    fsplit3 ! $ move ! (1 ∷ 2 ∷ 3 ∷ []) $ opens ! tt the_row {h = told} b o (λ vs.
    move ! (1 ∷ []) $ fpick ! (λ _.
    fpack ! ((s : Inside) × ((s.bytes ≡ told ++ piece) × Unit {0})) (λ s. fsep (inside.own_val s.0 vs) ftrue) (record { bytes = told ++ piece }, (refl, tt)) $
    sets ! (of_opd ! (unit_lit !)) refl (tt, tt) $
    move ! (1 ∷ 0 ∷ []) $ closes ! tt the_row (told ++ piece) vs b o $
    -- [two parts of self; its token; self's first part; the other token; the piece]
    returns ! (look_at ! 0 refl) $ free_all ! refl $ move ! (3 ∷ 0 ∷ 1 ∷ []) $ fjoin3 ! $ move ! (0 ∷ 3 ∷ []) $ fjoin ! $ move ! (1 ∷ 2 ∷ []) $ join ! $
    suffices ! _ (ends_at 𝓛 f.ended stayed c y vunit tt (told ++ piece, (tt, tt)) (tt, (tt, tt))) $ says ! refl $
    frame ! $ feq_i ! _ (vunit ∷ []) _ refl $ move ! (1 ∷ 0 ∷ []) $ done !))))
