use Rattle.std.proofs.Common.{◌≡◌, ◌∙◌, ap₂, codes, rules}
use Rattle.clap.specs.Simple.{app_of, with_rule}
use Rattle.clap.specs.Walk.{rule_of}
use Rattle.rump_sp.specs.Words.{journals_flag, plain_app, raw_flag}
use Rattle.rump_sp.proofs.words.bench_command.Goals as goal

pub returns : goal.returns
returns c =
    let raw : rule_of c.required-raw.result ≡ raw_flag = search rules in
    let journals : rule_of c.action-journals.result ≡ journals_flag = search rules in
    let plain : app_of c.disable_help_flag.result ≡ plain_app (codes "bench") = search rules in
    c.in_ok-command.ensures.shape (search rules) ∙ ap₂ with_rule (c.in_ok-arg.ensures.shape (search rules) ∙ ap₂ with_rule plain raw) journals
