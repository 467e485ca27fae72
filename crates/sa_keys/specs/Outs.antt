-- The bytes of what threads put out.
use Rattle.std.specs.Prelude.{ℕ, List, [], ◌++◌}
use Rattle.std.specs.List.{position_or_len}
use Rattle.sa_outlook.specs.declared.put.Put.{Put}
use Rattle.sa_outlook.specs.declared.put.Telling.{Telling}
use Rattle.sa_outlook.specs.declared.put.Telling.TheVariants.{Cells, Outs}
use Rattle.sa_outlook.specs.Outs.{is_before}
use Rattle.sa_outlook.specs.Look.{Look}
use Rattle.sa_package_keys.specs.Codes.{number, list}
use Rattle.sa_keys.specs.Key.{key_of}

-- where a value stands among these: behind those of its thread and of the threads before it
abbrev pub place_among : Put → List Put → ℕ
place_among x outs = position_or_len (λ y. is_before x y) outs

abbrev pub put_key : Put → List ℕ
put_key x = number x.space.0 ++ number x.thread.0 ++ number x.value

abbrev pub outs_key : Telling → List Put → List ℕ
outs_key Cells outs = []
outs_key Outs outs = list put_key outs

-- of what states are told apart by
abbrev pub look_key : {U D : Type 0} → (U → List ℕ) → (D → List ℕ) → Telling → Look U D → List ℕ
look_key user ctx tell look = outs_key tell look.outs ++ key_of user ctx look.outlook
