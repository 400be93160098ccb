use Rattle.epoch_rows.proofs.Window.{window_rows as the_window, after_window_rows as the_after_window}
use Rattle.epoch_rows.proofs.window_rows.Goals as goal

pub returns-clause-window : goal.returns-clause-window
returns-clause-window c = the_window

pub returns-clause-after : goal.returns-clause-after
returns-clause-after c = the_after_window
