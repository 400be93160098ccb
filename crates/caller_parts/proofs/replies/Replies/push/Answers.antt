use Rattle.std.proofs.Common.{◌<◌, length, sym, subst}
use Rattle.norm_lang.specs.Roomy.{Roomy}
use Rattle.caller_parts.specs.declared.call.Replied.{Replied}
use Rattle.caller_parts.proofs.Sides.{room_stays}
use Rattle.caller_parts.proofs.replies.Replies.push.Goals as goal

pub invariant_of-self : goal.invariant_of-self
invariant_of-self c =
    room_stays c.self.inside.replies c.self.inside.runs c.push.new.self c.push-2.new.self c.self.inside.room c.args.reply c.args.run c.self.invariant
    (subst (λ (r : Roomy Replied). length r.items < r.room) (sym c.self.view_is) c.requires) c.push.ensures c.push-2.ensures
