-- The rows of combined checks.
use Rattle.std.specs.Prelude.{refl}
use Rattle.worked_rows.specs.SchemeRows.{BarrierRows, CheckRows, QueueRows}

pub barrier_rows : BarrierRows
barrier_rows = record {
  pick_tested = refl;
  pick_alone = refl;
  kept_guarded = refl;
  kept_unguarded_later = refl;
  numbers_unguarded = refl;
  numbers_checked = refl;
  guarded_once = refl;
  jumps_lead = refl;
}

pub check_rows : CheckRows
check_rows = record {
  checked_together = refl;
  walked = refl;
  set_again = refl;
  computed = refl;
  computed_before = refl;
  made = refl;
  loop_head = refl;
  loop_head_clean = refl;
  both = refl;
  ends_bare = refl;
  ends_with_none = refl;
  ends_loaded = refl;
  ends_set = refl;
  after_end = refl;
}

pub queue_rows : QueueRows
queue_rows = record {
  enqueue_compiled = refl;
  enqueue_wrap_up_compiled = refl;
  dequeue_compiled = refl;
}
