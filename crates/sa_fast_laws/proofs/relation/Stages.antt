-- Where activations are, at two moments at which the same notices wait and the same lives run.
use Rattle.std.proofs.Common.{◌≡◌, ◌≢◌, Some, None, slice_index_or, sym, ap, ◌∙◌, subst}
use Rattle.std.specs.List.{list_any}
use Rattle.sa_base.specs.declared.number.ActNo.{ActNo}
use Rattle.sa_base.specs.declared.number.SpaceNo.{SpaceNo}
use Rattle.sa_base.specs.declared.record.Note.TheVariants.{Preempted, Unblocked}
use Rattle.sa_abstract.specs.Calls.{Contexts}
use Rattle.sa_package_model.specs.declared.context.Context.{Context}
use Rattle.sa_laws.specs.Life.{Life}
use Rattle.sa_laws.specs.Readings.{Readings, running_of, untold_of, life_of}
use Rattle.sa_laws.specs.Record.{same_note}
use Rattle.sa_fast_laws.specs.FastFits.{OthersRest}
use Rattle.sa_fast_laws.specs.Life.{IsAtRest}
use Rattle.sa_fast_laws.specs.Stage.{stage_by, is_act, stage_of}
use Rattle.sa_fast_laws.specs.View.{view}

pub stage-same : (s : SpaceNo) (r q : Readings) → untold_of q s ≡ untold_of r s → q.running ≡ r.running → (a : ActNo) (life : Life)
    → stage_of q s a life ≡ stage_of r s a life
stage-same s r q untold running a life =
    ap (λ ns. stage_by (list_any (same_note (Preempted a)) ns) (list_any (same_note (Unblocked a)) ns) (is_act a (running_of q life.proc))) untold
    ∙ ap (λ ps. stage_by (list_any (same_note (Preempted a)) (untold_of r s)) (list_any (same_note (Unblocked a)) (untold_of r s))
    (is_act a (slice_index_or ps life.proc.0 None))) running

-- the other lives stay at rest where they and their stages stay
pub others-stay : (s : SpaceNo) (r q : Readings) (a : ActNo) (cs : Contexts Context)
    → ((x : ActNo) (c : Context) → x.0 ≢ a.0 → cs x.0 ≡ Some c → life_of q x ≡ life_of r x)
    → ((x : ActNo) (life : Life) → x.0 ≢ a.0 → stage_of q s x life ≡ stage_of r s x life)
    → OthersRest s r a cs → OthersRest s q a cs
others-stay s r q a cs lives stages rest x c life ne at is =
    subst (λ g. IsAtRest g (view c) life) (sym (stages x life ne)) (rest x c life ne at (sym (lives x c ne at) ∙ is))
