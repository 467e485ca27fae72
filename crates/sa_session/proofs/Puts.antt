-- A reply ends no run, and adds no item.
use Rattle.std.proofs.Common.{◌≡◌, ℕ, zero, suc, ◌==◌, Bool, ◌&&◌, not, if◌then◌else◌, Option, Some, None, List, [], ◌∷◌, length, refl, sym, ap, ◌∙◌}
use Rattle.std.proofs.Math.Path.{fun_ext}
use Rattle.std.specs.Prelude.{slice_get, slice_set, is_some}
use Rattle.std.specs.List.{list_all}
use Rattle.std.proofs.lemmas.Option.{same_Some}
use Rattle.sa_base.specs.declared.number.SpaceNo.{SpaceNo}
use Rattle.sa_base.specs.declared.record.End.TheVariants.{AllDone, Stuck, Budget}
use Rattle.sa_assign.specs.Aims.{least_below}
use Rattle.sa_kernel_model.specs.State.{owner_of}
use Rattle.sa_kernel_model.specs.Seen.{is_quiet}
use Rattle.sa_assign.specs.Reaim.{proc_no}
use Rattle.sa_core_model.specs.Machine.{user_of, context_on}
use Rattle.sa_core_model.specs.End.{is_done, is_inactive, owes_by, owes_in, is_inside, is_any_inside, all_done, is_stuck, end_of}
use Rattle.sa_asked.specs.Questions.{put_by, put_reply, with_user}
use Rattle.sa_driven.specs.Replies.{driven_replies}
use Rattle.sa_driven.specs.RepliesKeep.{driven_keeps_replies}
use Rattle.sa_driven_model.specs.declared.context.DrivenContext.{DrivenContext}
use Rattle.sa_driven_model.specs.declared.reply.Reply.{Reply}
use Rattle.sa_driven_model.specs.declared.space.DrivenSpace.{DrivenSpace}
use Rattle.sa_driven_model.specs.Step.{driven_calls}
use Rattle.sa_driven_runs.specs.Sessions.{DrivenMachine}

-- a test of all values, if one is changed that passes it as before
all-set : (test : DrivenSpace → Bool) (us : List DrivenSpace) (n : ℕ) (u v : DrivenSpace) → slice_get us n ≡ Some u → test v ≡ test u
    → list_all test (slice_set us n v) ≡ list_all test us
all-set test [] n u v at same = refl
all-set test (x ∷ us) zero u v at same =
    ap (λ b. b && list_all test us) (same ∙ ap test (sym (same_Some x u at)))
all-set test (x ∷ us) (suc n) u v at same = ap (λ b. test x && b) (all-set test us n u v at same)

-- whether a context is inside does not depend on its space's value, if there is one
owes-some : (u v : DrivenSpace) (c : Option DrivenContext) → owes_by driven_calls (Some u) c ≡ owes_by driven_calls (Some v) c
owes-some u v None = refl
owes-some u v (Some c) = refl

owes-set : (us : List DrivenSpace) (n k : ℕ) (v : DrivenSpace) (c : Option DrivenContext)
    → owes_by driven_calls (slice_get (slice_set us n v) k) c ≡ owes_by driven_calls (slice_get us k) c
owes-set [] n k v c = refl
owes-set (x ∷ us) zero zero v c = owes-some v x c
owes-set (x ∷ us) zero (suc k) v c = refl
owes-set (x ∷ us) (suc n) zero v c = refl
owes-set (x ∷ us) (suc n) (suc k) v c = owes-set us n k v c

module _ (m : DrivenMachine) (s : SpaceNo) (v : DrivenSpace) where
  owes-put : (p : ℕ) (o : Option SpaceNo) → owes_in driven_calls (with_user s v m) (proc_no p) o ≡ owes_in driven_calls m (proc_no p) o
  owes-put p None = refl
  owes-put p (Some t) = owes-set m.users s.0 t.0 v (context_on m (proc_no p))

  least-same : (f g : ℕ → Bool) → ((k : ℕ) → f k ≡ g k) → (n : ℕ) → least_below n f ≡ least_below n g
  least-same f g same n = ap (least_below n) (fun_ext same)

  inside-put : is_any_inside driven_calls (with_user s v m) ≡ is_any_inside driven_calls m
  inside-put =
      ap is_some (least-same (is_inside driven_calls (with_user s v m)) (is_inside driven_calls m) (λ p. owes-put p (owner_of m.kernel (proc_no p))) (length m.contexts))

  module _ (u : DrivenSpace) (at : user_of m s ≡ Some u) (tally : driven_calls.tally v ≡ driven_calls.tally u) where
    done-put : all_done driven_calls (with_user s v m) ≡ all_done driven_calls m
    done-put = all-set (is_done driven_calls) m.users s.0 u v at (ap (λ t. t.done == t.made) tally)

    stuck-put : is_stuck driven_calls (with_user s v m) ≡ is_stuck driven_calls m
    stuck-put =
        ap (λ b. b && is_quiet m.kernel && not (is_any_inside driven_calls (with_user s v m)))
        (all-set (is_inactive driven_calls) m.users s.0 u v at (ap (λ t. t.active == 0) tally))
        ∙ ap (λ b. list_all (is_inactive driven_calls) m.users && is_quiet m.kernel && not b) inside-put

    pub end-with : (budget : ℕ) → end_of driven_calls budget (with_user s v m) ≡ end_of driven_calls budget m
    end-with budget =
        ap (λ b. if b then Some AllDone else if is_stuck driven_calls (with_user s v m) then Some Stuck
        else if m.event == budget then Some Budget else None) done-put
        ∙ ap (λ b. if all_done driven_calls m then Some AllDone else if b then Some Stuck else if m.event == budget then Some Budget else None) stuck-put

-- what a reply leaves as it is
pub put-workload : (m : DrivenMachine) (s : SpaceNo) (reply : Reply) → (put_reply driven_replies s reply m).workload ≡ m.workload
put-workload m s reply = by (user_of m s)
  where
    by : (o : Option DrivenSpace) → (put_by driven_replies s reply o m).workload ≡ m.workload
    by None = refl
    by (Some u) = refl

pub put-event : (m : DrivenMachine) (s : SpaceNo) (reply : Reply) → (put_reply driven_replies s reply m).event ≡ m.event
put-event m s reply = by (user_of m s)
  where
    by : (o : Option DrivenSpace) → (put_by driven_replies s reply o m).event ≡ m.event
    by None = refl
    by (Some u) = refl

pub put-end : (budget : ℕ) (m : DrivenMachine) (s : SpaceNo) (reply : Reply)
    → end_of driven_calls budget (put_reply driven_replies s reply m) ≡ end_of driven_calls budget m
put-end budget m s reply = by (user_of m s) refl
  where
    by : (o : Option DrivenSpace) → user_of m s ≡ o → end_of driven_calls budget (put_by driven_replies s reply o m) ≡ end_of driven_calls budget m
    by None at = refl
    by (Some u) at =
        end-with m s (driven_replies.put u reply) u at
        (driven_keeps_replies.tallies u (driven_replies.put u reply) (driven_keeps_replies.puts u reply)) budget
