-- Local lines one after another.
use Rattle.std.specs.Prelude.{◌≡◌, ℕ, zero, suc, List, Option, Some, None}
use Rattle.c_language.specs.declared.lines.Line.{Line}
use Rattle.c_language.specs.Steps.{Pool, Frame, Stop, Goes, Wants, Calls, Returns, Replies, Strays, stop}

-- so many lines, if none of them stops
abbrev pub on_stop : Stop → (Frame → Option Frame) → Option Frame
on_stop (Goes f) next = next f
on_stop (Wants a more) next = None
on_stop (Calls d function) next = None
on_stop (Returns x) next = None
on_stop (Replies answer x) next = None
on_stop Strays next = None

abbrev pub goes : Pool → List Line → ℕ → Frame → Option Frame
goes pool code zero f = Some f
goes pool code (suc k) f = on_stop (stop pool code f) (goes pool code k)

-- some local lines lead to a frame of which this holds
pub record Comes (pool : Pool) (code : List Line) (f : Frame) (There : Frame → Type 0) : Type 0 where
  pub count : ℕ
  pub frame : Frame
  pub goes : goes pool code count f ≡ Some frame
  pub there : There frame
