-- What a seat at the table knows.
use Rattle.std.specs.Prelude.{◌≡◌, ℕ, Bool, true, false, List, [], ◌∷◌}
use Rattle.barrier_check.specs.Paired.{Paired, IsSound}
use Rattle.caller_parts.specs.Settings.{Setting, Fits, IsSetting}
use Rattle.caller_parts.specs.declared.setting.Reclamation.TheVariants.{Optimistic}
use Rattle.caller_steps.specs.Entries.{Entry}
use Rattle.core_ground.specs.Running.{MayRun}
use Rattle.norm_lang.specs.LineWords.{item_kind}

-- what a table is told once: the target with its source, and the setting
pub record Fixed : Type 0 where
  pub target : Paired
  pub setting : Setting

-- callers may run the target, which is barred for its source if access is optimistic, and the setting fits it
pub record IsGround (key : Fixed) : Type 0 where
  pub runs : MayRun key.target
  pub sound : key.setting.reclamation ≡ Optimistic → IsSound key.target
  pub own : IsSetting key.setting
  pub fits : Fits key.target.target key.setting

-- what a seat knows: whether it is still in use, what the table was told, the entries that are its own, how many places it has
-- found taken, and how many accesses were made through it and through the seats that it took in
pub record SeatView : Type 0 where
  -- false once it was joined away
  pub live : Bool
  pub fixed : Fixed
  pub entries : List Entry
  pub found : ℕ
  pub accesses : ℕ
  -- which parts of the first seat it is, each by how often that was halved
  pub parts : List ℕ

-- the first seat of a table
abbrev pub newcomer : Fixed → SeatView
newcomer key = record { live = true; fixed = key; entries = []; found = 0; accesses = 0; parts = 0 ∷ [] }

-- no target and no setting
abbrev pub no_fixed : Fixed
no_fixed = record {
  target = record { target = record { kinds = item_kind ∷ []; fields = []; roots = []; nodes = []; ops = [] }; source = record { kinds = item_kind ∷ []; fields = []; roots = []; nodes = []; ops = [] } };
  setting = record { reclamation = Optimistic; sizes = record { callers = 0; slots = 0; fields = 0; cells = 0; kinds = []; tops = 8192 }; first = 0; last = 0; nodes = [] };
}

-- what is left of a seat that was joined away
abbrev pub nobody : SeatView
nobody = record { live = false; fixed = no_fixed; entries = []; found = 0; accesses = 0; parts = [] }
