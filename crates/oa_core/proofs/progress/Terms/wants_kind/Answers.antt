use Rattle.oa_core.proofs.Counted.{belong_in, wants_in}
use Rattle.oa_core.proofs.progress.Terms.wants_kind.Goals as goal

pub wants_kind-requires : goal.wants_kind-requires
wants_kind-requires c = belong_in c.args.self.now _ _ c.args.now.now c.deref.result.now c.self.view_is c.now.view_is c.requires c.deref.ensures.value

pub returns : goal.returns
returns c = wants_in c.args.self.now _ _ c.args.now.now c.deref.result.now c.args.caller c.args.kind c.wants_kind.result c.self.view_is c.now.view_is c.deref.ensures.value c.wants_kind.ensures
