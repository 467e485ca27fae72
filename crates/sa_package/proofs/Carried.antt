-- What a context carries after a micro-operation is a thread of the space.
use Rattle.std.proofs.Common.{◌≡◌, ℕ, ◌-◌, ◌<◌, Bool, true, false, length, Option, Some, None, slice_get, IfSome, refl, ap, arith}
use Rattle.std.proofs.lemmas.Option.{same_Some}
use Rattle.std.specs.Option.{option_map}
use Rattle.sa_base.specs.declared.number.ProcNo.{ProcNo}
use Rattle.sa_base.specs.declared.number.ThreadNo.{ThreadNo}
use Rattle.sa_base.specs.declared.limits.TheConstants.{MAX_THREADS}
use Rattle.sa_links.proofs.Counting.{get_in, count_at}
use Rattle.sa_lists.specs.ReadyView.{ReadyView, processor, list_of, sought, IsReady}
use Rattle.sa_lists.proofs.Rounds.{sought-first}
use Rattle.sa_code.specs.declared.state.PackageState.{PackageState}
use Rattle.sa_code.specs.declared.state.Frame.{Frame}
use Rattle.sa_code.specs.Micro.{micro, takes_first, chosen, list_in, CanDo}
use Rattle.sa_code.proofs.Cases.{micro-outcome}
use Rattle.sa_package_model.specs.Conditions.{IsThread}

below : (r : ReadyView) (l k t : ℕ) → IsReady r → slice_get (list_of r l) k ≡ Some t → t < r.threads
below r l k t h e = let here = get_in (list_of r l) k t e in let all = count_at t r.lists l in h.below t (omega arith)

chosen_below : (r : ReadyView) (own : Bool) (l t : ℕ) → IsReady r → chosen r own l ≡ Some t → t < r.threads
chosen_below r true l t h e = below r l 0 t h e
chosen_below r false l t h e = below r l (length (list_of r l) - 1) t h e

pub carried-below : (s : PackageState) (f : Frame) (pages : ℕ) → IsReady s.lists → s.lists.threads ≡ MAX_THREADS → CanDo s f (slice_get s.code f.pc)
    → IsThread f.thread → IsThread (micro s f pages).frame.thread
carried-below s f pages ready all can thread = micro-outcome (λ m. IsThread m.frame.thread) s f pages can (record {
  spun = λ list held. thread;
  took_to_push = λ op list push free. thread;
  took_to_pop = λ op list free. thread;
  faulted = λ change absent. thread;
  did_push = λ t op change e push. thread;
  did_pop = λ t op change pop e. let small = chosen_below s.lists (takes_first s.lists f.own) (list_in f).0 t ready e in omega arith;
  did_free = λ op change. thread;
  left = λ op. thread;
  yielded = λ op. thread;
})

-- a thread that can be put into a work list is one of the space
pub due_below : (t : Option ThreadNo) (Q : ThreadNo → Type 0) → IfSome t (λ n. (n.0 < MAX_THREADS) × Q n) → IsThread t
due_below None Q h = h
due_below (Some n) Q h = h.0

-- a list that `seek` gives is one of the space
sought_inside : (r : ReadyView) (p : ℕ) (l : ProcNo) (found : Option ℕ) → p < length r.lists → sought r p ≡ found → Some l ≡ option_map processor found
    → l.0 < length r.lists
sought_inside r p l None inside e is = absurd cc
sought_inside r p l (Some q) inside e is =
    let same : l.0 ≡ q = ap (λ (x : ProcNo). x.0) (same_Some _ _ is) in let there = (sought-first r p q inside e).inside in omega arith

pub sought-inside : (r : ReadyView) (p : ℕ) (l : ProcNo) → p < length r.lists → Some l ≡ option_map processor (sought r p) → l.0 < length r.lists
sought-inside r p l inside is = sought_inside r p l (sought r p) inside refl is
