-- Bytes that were given to a sink, piece after piece.
use Rattle.std.proofs.Common.{◌≡◌, ℕ, ◌+◌, ◌-◌, List, ◌++◌, length, take, drop, Option, Some, None, Ok, sym, ap, subst, ◌∙◌, append_assoc, length-drop, take_all, arith}
use Rattle.std.proofs.Math.Seq.{take-add}
use Rattle.pg_io.specs.Streams.{Gains, Delivers}

-- what `&bytes[at..]` is
pub rest_is : (z : List ℕ) (at : ℕ) → take (length z - at) (drop at z) ≡ drop at z
rest_is z at = take_all _ _ (omega (arith, length-drop at z))

pub length-rest : (z : List ℕ) (at : ℕ) → length (take (length z - at) (drop at z)) ≡ length z - at
length-rest z at = ap (λ (l : List ℕ). length l) (rest_is z at) ∙ length-drop at z

pub delivered_more : (before mid now : Option (List ℕ)) (bytes : List ℕ) (at n : ℕ) → Delivers before mid (Ok at) (take at bytes) → Gains mid now (Ok n) (take (length bytes - at) (drop at bytes)) → Delivers before now (Ok (at + n)) (take (at + n) bytes)
delivered_more None mid now bytes at n given more = subst (λ (m : Option (List ℕ)). Gains m now (Ok n) (take (length bytes - at) (drop at bytes))) given more
delivered_more (Some taken) mid now bytes at n given more =
    let m = subst (λ (m : Option (List ℕ)). Gains m now (Ok n) (take (length bytes - at) (drop at bytes))) given more in
    m ∙ ap (λ (l : List ℕ). Some l) (ap (λ (l : List ℕ). (taken ++ take at bytes) ++ take n l) (rest_is bytes at) ∙ append_assoc taken (take at bytes) (take n (drop at bytes)) ∙ ap (λ (l : List ℕ). taken ++ l) (sym (take-add at n bytes)))
