use Rattle.um_cli.proofs.Lemmas.{message_count-some, message_count-none}
use Rattle.um_cli.proofs.words.parse_message_count.Goals as goal

pub returns-in-Ok-clause-value : goal.returns-in-Ok-clause-value
returns-in-Ok-clause-value c =
    message_count-some c.args.word.now c.parse.result c.in-Ok.n c.parse.ensures.value.0 c.requires c.in-Ok.is c.if-n-ge1.true
    c.if-n-le1000.true

pub returns-in_default-3-clause-value : goal.returns-in_default-3-clause-value
returns-in_default-3-clause-value c =
    message_count-none c.args.word.now c.parse.result _ c.parse.ensures.value.0 c.requires c.in_default.is
