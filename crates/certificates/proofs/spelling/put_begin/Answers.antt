use Rattle.std.proofs.Common.{rules}
use Rattle.std.specs.Prelude.{option_copied}
use Rattle.certificates.specs.CertificateSpelling.{call_words}
use Rattle.certificates.proofs.Spelled.{begin_in_steps}
use Rattle.certificates.proofs.spelling.put_begin.Goals as goal

pub returns : goal.returns
returns c =
    begin_in_steps c.args.out.now.items c.extend_from_slice.new.self.items c.put_decimal.new.out.items c.put_call.new.out.items c.push.new.self.items c.args.caller
    (call_words (option_copied c.args.op) c.args.words.now) (search rules) (search rules) (search rules) (search rules)
