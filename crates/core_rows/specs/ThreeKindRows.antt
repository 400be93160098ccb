-- Rows with three kinds of nodes, of which the middle one has the most fields and no initial node: what a setting is to say of the
-- target, which cradle each `new` has, and which words may stand where.
use Rattle.std.specs.Prelude.{◌≡◌, ℕ, ◌+◌, ◌*◌, List, [], ◌∷◌, map, Ok, Err, codes}
use Rattle.norm_lang.specs.declared.text.FieldKind.TheVariants as holdings
use Rattle.norm_lang.specs.declared.text.Start.TheVariants as starts
use Rattle.norm_lang.specs.declared.text.Instr.TheVariants.{New}
use Rattle.norm_lang.specs.KindFields.{place_of}
use Rattle.target_code.specs.declared.target.TargetInstr.{TargetInstr}
use Rattle.target_code.specs.declared.target.TargetInstr.TheVariants.{Plain, Check}
use Rattle.target_code.specs.declared.target.Target.{Target}
use Rattle.oa_words.specs.Words.{Word, Hazard, FieldOf, Cell, Head, Link}
use Rattle.caller_parts.specs.declared.setting.SettingFault.TheVariants as faults
use Rattle.caller_parts.specs.KindCounts.{field_count, greatest_count, node_counts}
use Rattle.caller_parts.specs.Operands.{cradle_number}
use Rattle.caller_parts.specs.declared.setting.Reclamation.TheVariants.{Optimistic}
use Rattle.caller_parts.specs.Settings.{Setting, Fits, setting_or_fault}
use Rattle.caller_steps.specs.Lawful.{IsLawful}
use Rattle.core_rows.specs.Short.{r0, r1, r2, r3}

-- the first kind has one field and two initial nodes, the second three fields and none, the third two fields and one
abbrev pub three_kinds : Target
three_kinds = record {
  kinds = codes "a" ∷ codes "b" ∷ codes "c" ∷ [];
  fields =
      record { owner = 0; name = codes "a0"; kind = holdings.Number }
      ∷ record { owner = 1; name = codes "b0"; kind = holdings.Number }
      ∷ record { owner = 1; name = codes "b1"; kind = holdings.Reference 2 }
      ∷ record { owner = 1; name = codes "b2"; kind = holdings.Number }
      ∷ record { owner = 2; name = codes "c0"; kind = holdings.Number }
      ∷ record { owner = 2; name = codes "c1"; kind = holdings.Reference 0 }
      ∷ [];
  roots =
      record { name = codes "total"; kind = holdings.Number; start = starts.Value 0 }
      ∷ record { name = codes "top"; kind = holdings.Reference 1; start = starts.Node 0 }
      ∷ [];
  nodes =
      record { owner = 0; values = starts.Value 1 ∷ [] }
      ∷ record { owner = 0; values = starts.Value 2 ∷ [] }
      ∷ record { owner = 2; values = starts.Value 3 ∷ starts.Node 1 ∷ [] }
      ∷ [];
  ops = [];
}

-- so many slots of each kind, three fields in each, and these counts of initial nodes
abbrev pub told : List ℕ → List ℕ → Setting
told slots nodes = record { reclamation = Optimistic; sizes = record { callers = 1; slots = 6; fields = 3; cells = 2; kinds = slots; tops = 8192 }; first = 1; last = 9; nodes = nodes }

-- slots 1 and 2 are for the first kind, 3 to 5 for the second, and 6 for the third
abbrev pub three_setting : Setting
three_setting = told (2 ∷ 3 ∷ 1 ∷ []) (2 ∷ 0 ∷ 1 ∷ 0 ∷ [])

pub record ThreeKindSettings : Type 0 where
  -- the most fields aren't those of the last kind, nor of the first
  pub greatest : greatest_count three_kinds ≡ 3
  pub fields : map (field_count three_kinds.fields) (0 ∷ 1 ∷ 2 ∷ 3 ∷ []) ≡ 1 ∷ 3 ∷ 2 ∷ 0 ∷ []
  pub places : map (place_of three_kinds.fields) (0 ∷ 1 ∷ 2 ∷ 3 ∷ 4 ∷ 5 ∷ []) ≡ 0 ∷ 0 ∷ 1 ∷ 2 ∷ 0 ∷ 1 ∷ []
  pub nodes : node_counts three_kinds ≡ 2 ∷ 0 ∷ 1 ∷ 0 ∷ []
  pub fits : Fits three_kinds three_setting
  -- a kind may have no slot left
  pub taken : setting_or_fault three_setting ≡ Ok three_setting
  -- each kind is judged by its own slots, wherever others are left
  pub first_full : setting_or_fault (told (1 ∷ 4 ∷ 1 ∷ []) (2 ∷ 0 ∷ 1 ∷ 0 ∷ [])) ≡ Err faults.Nodes
  pub second_full : setting_or_fault (told (2 ∷ 3 ∷ 1 ∷ []) (0 ∷ 4 ∷ 1 ∷ 0 ∷ [])) ≡ Err faults.Nodes
  pub third_full : setting_or_fault (told (2 ∷ 3 ∷ 1 ∷ []) (2 ∷ 0 ∷ 2 ∷ 0 ∷ [])) ≡ Err faults.Nodes
  -- numbers past the kinds aren't judged
  pub past_kinds : setting_or_fault (told (2 ∷ 3 ∷ 1 ∷ []) (0 ∷ 0 ∷ 0 ∷ 7 ∷ [])) ≡ Ok (told (2 ∷ 3 ∷ 1 ∷ []) (0 ∷ 0 ∷ 0 ∷ 7 ∷ []))

-- a node of the second kind, two of the first, and another of the second
abbrev pub four_news : List TargetInstr
four_news = Plain (New r0 1) ∷ Check ∷ Plain (New r1 0) ∷ Plain (New r2 0) ∷ Plain (New r3 1) ∷ []

pub record ThreeKindCradles : Type 0 where
  -- the first of a kind, whatever was made of other kinds before it
  pub first : map (cradle_number four_news) (0 ∷ 2 ∷ []) ≡ 4 ∷ 0 ∷ []
  pub second : map (cradle_number four_news) (3 ∷ 4 ∷ []) ≡ 1 ∷ 5 ∷ []

abbrev pub May : Word → ℕ → Type 0
May w word = IsLawful three_kinds three_setting w word

abbrev pub MayNot : Word → ℕ → Type 0
MayNot w word = IsLawful three_kinds three_setting w word → ⊥

pub record ThreeKindWords : Type 0 where
  -- a head: a slot of its kind or none on top, and no phase past the last
  pub top : May (Head 1) (8192 * 9 + 4)
  pub no_top : May (Head 1) (8192 * 9 + 0)
  pub other_top : MayNot (Head 1) (8192 * 9 + 2)
  pub late_top : MayNot (Head 1) (8192 * 10 + 4)
  -- a link: a slot of its slot's kind, or none
  pub link : May (Link 4) 5
  pub no_link : May (Link 4) 0
  pub other_link : MayNot (Link 4) 6
  -- the second field of the second kind refers to the third, and that of the third to the first. A mark doesn't matter
  pub reference : May (FieldOf 4 1) 12
  pub marked : May (FieldOf 4 1) 13
  pub null : May (FieldOf 4 1) 0
  pub other_reference : MayNot (FieldOf 4 1) 2
  pub reference_back : May (FieldOf 6 1) 4
  pub other_back : MayNot (FieldOf 6 1) 12
  -- past the row
  pub no_slot : MayNot (FieldOf 4 1) 14
  -- a number, and a field that the kind doesn't have
  pub number : May (FieldOf 4 0) 99
  pub no_field : May (FieldOf 1 1) 99
  -- null's fields
  pub null_field : May (FieldOf 0 1) 0
  pub null_refers : MayNot (FieldOf 0 1) 2
  -- roots
  pub number_root : May (Cell 0) 99
  pub reference_root : May (Cell 1) 6
  pub other_root : MayNot (Cell 1) 12
  -- a hazard: a slot of any kind
  pub hazard : May (Hazard 0 3) 6
  pub no_hazard : MayNot (Hazard 0 3) 7
