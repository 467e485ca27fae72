-- The commands of a script, one after another: what is done and told after each, also where memory runs out at it.
use Rattle.std.proofs.Common.{◌≡◌, ℕ, ◌+◌, ◌<◌, List, [], ◌∷◌, ◌++◌, length, get_or, take, Option, Some, None, refl, sym, ap, ◌∙◌, subst, inl, inr}
use Rattle.std.specs.Prelude.{unwrap_or}
use Rattle.std.proofs.lemmas.Grind.{flat_map-append}
use Rattle.std.proofs.lemmas.List.{append-nil, take_more}
use Rattle.std.proofs.lemmas.Option.{slice_get-get_or}
use Rattle.sa_base.specs.declared.record.End.{End}
use Rattle.sa_base.specs.declared.record.End.TheVariants.{Budget}
use Rattle.sa_base.specs.declared.record.Item.{Item}
use Rattle.sa_spaces.specs.Workload.{WorkloadView, IsWorkload}
use Rattle.sa_laws.specs.Event.{events_of}
use Rattle.sa_core_model.specs.End.{end_of}
use Rattle.sa_core_model.specs.Run.{opening}
use Rattle.sa_package_model.specs.Step.{fast_calls}
use Rattle.sa_package_runs.specs.Runs.{FastMachine}
use Rattle.sa_debug.specs.declared.script.command.DebugCommand.{DebugCommand}
use Rattle.sa_debug.specs.declared.script.reply.Reply.{Reply}
use Rattle.sa_debug.specs.script.Reply.{reply_text}
use Rattle.sa_debug.specs.Session.{Watched, Session, fresh, Does, DoesSoFar, DoAll}
use Rattle.sa_debug.specs.OverMachines.{over_machines}
use Rattle.sa_package_runs.specs.Sessions.{SessionsAreLegal, SessionsSoFarAreLegal, IsLegalSession}
use Rattle.sa_package_runs.specs.Told.{CameSoFar, SessionsAreTold, PartsOfSessionsAreTold}
use Rattle.sa_cli.specs.Debugged.{replies_text, AreDone, told_end, IsOver, RanSoFar}

do-push : {M : Type 0} (o : Watched M) (cs : List DebugCommand) (s between t : Session M) (replies : List Reply) (c : DebugCommand) (reply : Reply)
    → DoAll o cs s between replies → Does o c between t reply → DoAll o (cs ++ c ∷ []) s t (replies ++ reply ∷ [])
do-push o [] s between t replies c reply done does = (
  t,
  reply,
  [],
  ap (λ rs. rs ++ reply ∷ []) done.1,
  subst (λ x. Does o c x t reply) done.0 does,
  (refl, refl),
)
do-push o (d ∷ cs) s between t replies c reply done does = (
  done.0,
  done.1,
  done.2 ++ reply ∷ [],
  ap (λ rs. rs ++ reply ∷ []) done.3,
  done.4,
  do-push o cs done.0 between t done.2 c reply done.5 does,
)

-- one command more is done
pub done-more : (budget now : ℕ) (commands : List DebugCommand) (i : ℕ) (d : DebugCommand) (s between t : Session FastMachine) (text more : List ℕ)
    (reply : Reply)
    → now ≡ budget → i < length commands → AreDone budget (take i commands) s between text
    → Does (over_machines fast_calls now) (get_or commands i d) between t reply
    → more ≡ text ++ reply_text reply → AreDone budget (take (i + 1) commands) s t more
done-more budget now commands i d s between t text more reply same within are does says = record {
  replies = are.replies ++ reply ∷ [];
  done = subst (λ cs. DoAll (over_machines fast_calls budget) cs s t (are.replies ++ reply ∷ [])) (sym (take_more commands i d within))
      (do-push (over_machines fast_calls budget) (take i commands) s between t are.replies (get_or commands i d) reply are.done
      (subst (λ b. Does (over_machines fast_calls b) (get_or commands i d) between t reply) same does));
  says = says ∙ ap (λ bs. bs ++ reply_text reply) are.says
      ∙ ap (λ bs. replies_text are.replies ++ bs) (sym (append-nil (reply_text reply)))
      ∙ sym (flat_map-append reply_text are.replies (reply ∷ []));
}

-- memory ran out at a command, and after one
pub came-at : (budget now : ℕ) (commands : List DebugCommand) (i : ℕ) (d : DebugCommand) (s between t : Session FastMachine) (text : List ℕ)
    → now ≡ budget → i < length commands → AreDone budget (take i commands) s between text
    → DoesSoFar (over_machines fast_calls now) (get_or commands i d) between t
    → CameSoFar (over_machines fast_calls budget) commands s t
came-at budget now commands i d s between t text same within are came = record {
  count = i;
  between = between;
  replies = are.replies;
  done = are.done;
  last =
      inr (
        get_or commands i d,
        slice_get-get_or commands i d within,
        subst (λ b. DoesSoFar (over_machines fast_calls b) (get_or commands i d) between t) same came,
      );
}

pub came-behind : (budget : ℕ) (commands : List DebugCommand) (i : ℕ) (s t : Session FastMachine) (text : List ℕ) → AreDone budget (take i commands) s t text
    → CameSoFar (over_machines fast_calls budget) commands s t
came-behind budget commands i s t text are = record { count = i; between = t; replies = are.replies; done = are.done; last = inl refl }

told-is : (o : Option End) → unwrap_or o Budget ≡ told_end o
told-is None = refl
told-is (Some end) = refl

-- the session that begins at the opening of the workload
from-opening : (w : WorkloadView) (m : FastMachine) (s : Session FastMachine) → m ≡ opening fast_calls w → s ≡ fresh m → s ≡ fresh (opening fast_calls w)
from-opening w m s opens starts = starts ∙ ap (λ x. (λ (y : Session FastMachine). y) (fresh x)) opens

-- a session that is over, and one that came so far
pub over-so : (w : WorkloadView) (budget b c : ℕ) (commands : List DebugCommand) (m : FastMachine) (s t : Session FastMachine) (text : List ℕ)
    (items : List Item) (end : End) (o : Option End) (events : ℕ)
    → SessionsAreLegal → SessionsAreTold → IsWorkload w → m ≡ opening fast_calls w → s ≡ fresh m → b ≡ budget
    → AreDone b commands s t text → items ≡ t.machine.items
    → c ≡ b → o ≡ end_of fast_calls c t.machine → end ≡ unwrap_or o Budget → events ≡ t.machine.event → IsOver w budget commands text items end events
over-so w budget b c commands m s t text items end o events legal tells ok opens starts same are shows kept ended told counts =
    let first = from-opening w m s opens starts in
    let done : AreDone budget commands (fresh (opening fast_calls w)) t text =
    subst (λ n. AreDone n commands (fresh (opening fast_calls w)) t text) same (subst (λ x. AreDone b commands x t text) first are) in
    let lawful : IsLegalSession w budget t.machine = legal w budget commands t done.replies ok done.done in
    record {
      session = t;
      done = done;
      shows = shows;
      ends = told ∙ told-is o ∙ ap told_end (ended ∙ ap (λ n. end_of fast_calls n t.machine) (kept ∙ same));
      counts = counts;
      counted = ap (λ (xs : List Item). length (events_of xs)) shows ∙ lawful.count ∙ ap (λ (n : ℕ). n + 1) (sym counts);
      legal = lawful;
      told = tells w budget commands t done.replies ok done.done;
    }

came-legal : (w : WorkloadView) (budget : ℕ) (commands : List DebugCommand) (t : Session FastMachine) → SessionsAreLegal → SessionsSoFarAreLegal → IsWorkload w
    → CameSoFar (over_machines fast_calls budget) commands (fresh (opening fast_calls w)) t → IsLegalSession w budget t.machine
came-legal w budget commands t whole so_far ok came = elim came.last [
  | inl same ↦ subst (λ (x : Session FastMachine). IsLegalSession w budget x.machine) (sym same)
      (whole w budget (take came.count commands) came.between came.replies ok came.done)
  | inr part ↦ so_far w budget (take came.count commands) came.between t came.replies part.0 ok came.done part.2
]

pub partly-so : (w : WorkloadView) (budget b : ℕ) (commands : List DebugCommand) (m : FastMachine) (s t : Session FastMachine) (items : List Item)
    → SessionsAreLegal → SessionsSoFarAreLegal → PartsOfSessionsAreTold → IsWorkload w → m ≡ opening fast_calls w
    → s ≡ fresh m → b ≡ budget → CameSoFar (over_machines fast_calls b) commands s t → items ≡ t.machine.items
    → RanSoFar w budget commands items
partly-so w budget b commands m s t items whole so_far told ok opens starts same came shows =
    let first = from-opening w m s opens starts in
    let done : CameSoFar (over_machines fast_calls budget) commands (fresh (opening fast_calls w)) t =
    subst (λ n. CameSoFar (over_machines fast_calls n) commands (fresh (opening fast_calls w)) t) same
    (subst (λ x. CameSoFar (over_machines fast_calls b) commands x t) first came) in
    inr (record {
      session = t;
      came = done;
      shows = shows;
      legal = came-legal w budget commands t whole so_far ok done;
      told = told w budget commands t ok done;
    })
