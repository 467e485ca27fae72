-- The calls and the readings of a history.
use Rattle.std.proofs.Common.{◌≡◌, ℕ, refl, sym, ◌∙◌, ap, Bool, Option, Some, None}
use Rattle.std.specs.Option.{option_map}
use Rattle.sa_base.specs.declared.number.ProcNo.{ProcNo}
use Rattle.sa_base.specs.declared.number.ThreadNo.{ThreadNo}
use Rattle.sa_base.specs.declared.number.ActNo.{ActNo}
use Rattle.sa_base.specs.declared.record.Note.TheVariants.{Add}
use Rattle.sa_base.specs.declared.record.Record.TheVariants.{Take, Told}
use Rattle.sa_lemmas.specs.Function.{put}
use Rattle.sa_laws.specs.Life.{Life, with_lock}
use Rattle.sa_laws.specs.Readings.{Readings, running_of, life_if}
use Rattle.sa_laws.specs.Record.{with_life, locks}
use Rattle.sa_laws.specs.History.{stepped, arisen}
use Rattle.sa_check_lives.specs.Change.{stepped_by, arisen_by}
use Rattle.sa_check_lives.specs.View.{read_of}
use Rattle.sa_check_lives.specs.Recorded.{taken_lock, IsForPush, RecordsAreRead, StepsAreRead, UpsAreRead}

mapped-as : (f g : Life → Life) (o : Option Life) → ((life : Life) → o ≡ Some life → f life ≡ g life) → option_map f o ≡ option_map g o
mapped-as f g None same = refl
mapped-as f g (Some life) same = ap (λ x. Some x) (same life refl)

-- two functions that agree at the life of a number change the lives alike
pub with_life-as : (f g : Life → Life) (a : Option ActNo) (lives : ℕ → Option Life)
    → ((act : ActNo) (life : Life) → a ≡ Some act → lives act.0 ≡ Some life → f life ≡ g life)
    → with_life f a lives ≡ with_life g a lives
with_life-as f g None lives same = refl
with_life-as f g (Some a) lives same = ap (put lives a.0) (mapped-as f g (lives a.0) (λ life is. same a life refl is))

take-read : (p l : ProcNo) (t : Option ThreadNo) (r : Readings) (for_push : Bool) → IsForPush r p for_push
    → with_life (locks r p l t) (running_of r p) r.lives ≡ with_life (with_lock (taken_lock p l t for_push)) (running_of r p) r.lives
take-read p l t r for_push is = with_life-as (locks r p l t) (with_lock (taken_lock p l t for_push)) (running_of r p) r.lives
    (λ a life at here. ap (λ b. with_lock (taken_lock p l t b) life) (sym (is.each life (ap (life_if r) at ∙ here))))

pub records-read : RecordsAreRead
records-read w e p r (Take s l t) for_push is = ap (λ lives. record (read_of r) { lives = lives }) (take-read p l t r for_push is)
records-read w e p r (Told (Add q)) for_push is = refl
records-read w e p r _ for_push is = refl

pub steps-read : StepsAreRead
steps-read test w before e after first a lives x said =
    with_life-as (stepped test w before e after first) (stepped_by x) a lives (λ act life at here.
    let freed = said.freed in
    let scan = said.scan life.scans in
    let inside = said.inside act life at here in
    cc)

pub ups-read : UpsAreRead
ups-read test w before e after a lives inside said =
    with_life-as (arisen test w before e after) (arisen_by inside) a lives (λ act life at here.
    let same = said act life at here in
    cc)
