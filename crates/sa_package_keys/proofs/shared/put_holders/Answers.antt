use Rattle.std.proofs.Common.{is_none, ◌∙◌, ◌++◌, take, ap, refl}
use Rattle.sa_package_keys.specs.Codes.{thread_key, list}
use Rattle.sa_package_keys.proofs.Loops.{padded-all}
use Rattle.sa_package_keys.proofs.shared.put_holders.Goals as goal

pub returns : goal.returns
returns c =
    padded-all is_none thread_key c.args.holders.now c.kept_threads-kept.result _ _ _ refl c.kept_threads-kept.ensures.kept
    (c.in_ok-put_threads.ensures ∙ ap (λ z. z ++ list thread_key (take c.kept_threads-kept.result c.args.holders.now)) c.in_ok-put_number.ensures)
