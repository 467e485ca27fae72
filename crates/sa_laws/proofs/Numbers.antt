-- Processors, spaces and activations are the same where their numbers are.
use Rattle.std.proofs.Common.{◌≡◌, ap}
use Rattle.sa_base.specs.declared.number.ActNo.{ActNo}
use Rattle.sa_base.specs.declared.number.ProcNo.{ProcNo}
use Rattle.sa_base.specs.declared.number.SpaceNo.{SpaceNo}

pub proc-by_number : (p q : ProcNo) → p.0 ≡ q.0 → p ≡ q
proc-by_number p q e = ap (λ n. record { 0 = n }) e

pub space-by_number : (s t : SpaceNo) → s.0 ≡ t.0 → s ≡ t
space-by_number s t e = ap (λ n. record { 0 = n }) e

pub act-by_number : (a b : ActNo) → a.0 ≡ b.0 → a ≡ b
act-by_number a b e = ap (λ n. record { 0 = n }) e
