-- Keys that stand in a buffer, and the shares made of keys and weights. Assumes nothing.
use mathlib.Core.Path.{◌≡◌, ap, ap₂, ◌∙◌}
use mathlib.Core.List.{List, ◌++◌, map}
use Prim.Native.Nat.{ℕ}
use lib.IntN.{ℤ, nat_abs}
use lib.ListN.{length, take, drop, length-map}
use lib.Seq.{take-length}
use Rattle.proration.specs.Proration.{prorateZ}

-- as many keys as users
pub all_keys : (users d : List ℕ) {e : List ℕ} → e ≡ take (length d) users → length d ≡ length users → e ≡ users
all_keys users d h l = h ∙ ap (λ n. take n users) l ∙ take-length users

pub shared_out : (z : ℤ) (users : List ℕ) (zs : List ℤ) (shares : List ℤ) {keys ws : List ℕ} {out : List ℤ} → keys ≡ users → ws ≡ map nat_abs zs
    → length zs ≡ length users → out ≡ prorateZ z ws keys ++ drop (length ws) shares → out ≡ prorateZ z (map nat_abs zs) users ++ drop (length users) shares
shared_out z users zs shares k w l h = h ∙ ap₂ (λ t u. prorateZ z t u ++ drop (length t) shares) w k ∙ ap (λ n. prorateZ z (map nat_abs zs) users ++ drop n shares) (length-map zs nat_abs ∙ l)
