use Rattle.std.proofs.Common.{ap, ◌∙◌}
use Rattle.sa_lists.specs.ReadyView.{ReadyView, next_made, with_made}
use Rattle.sa_driven_model.proofs.opening.open_lists.Goals as goal

pub returns : goal.returns
returns c = c.make.ensures.made ∙ ap (λ (r : ReadyView). with_made r 0 (next_made r)) c.in_ok-lists.ensures
