-- Bytes stand for at most one text.
use Rattle.norm_lang.specs.Laws.{StandForOne}

pub stand_for_one : StandForOne
stand_for_one bytes one other stands stands_too = cc
