-- What a search of two datagrams finds, and what is counted. Only functions of the crate's own cite this.
use Rattle.std.specs.Prelude.{ℕ, zero, suc, ◌+◌, ◌-◌, ◌≤◌, ◌<◌, ◌≡◌, Bool, cond, not, ◌&&◌}

-- from p to r the test does not come out as wanted
abbrev pub NoneIn : (ℕ → Bool) → Bool → ℕ → ℕ → Type 0
NoneIn test wanted p r = (q : ℕ) → p ≤ q → q < r → test q ≡ not wanted

-- r is the first place from p on where the test comes out as wanted, or the end, where there is none
pub record IsNext (test : ℕ → Bool) (wanted : Bool) (p end r : ℕ) : Type 0 where
  pub behind : p ≤ r
  pub inside : r ≤ end
  pub before : NoneIn test wanted p r
  pub here : r < end → test r ≡ wanted

-- how many of the n places from p on end a run: they differ, and the next one does not
abbrev pub ends_from : (ℕ → Bool) → ℕ → ℕ → ℕ
ends_from differs p zero = 0
ends_from differs p (suc n) = cond (differs p && not (differs (suc p))) 1 0 + ends_from differs (suc p) n

-- the same, from p up to r
abbrev pub ends : (ℕ → Bool) → ℕ → ℕ → ℕ
ends differs p r = ends_from differs p (r - p)
