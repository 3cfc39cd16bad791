-- What is read of the options is what the facts say. Assumes nothing.
use Prim.Native.Nat.{ℕ}
use mathlib.Core.Path.{◌≡◌, refl, sym, ap, subst, ◌∙◌}
use mathlib.Core.Logic.{◌⊎◌, ⊎_elim, inl, inr}
use mathlib.Core.Bool.{Bool, true, false, cond, ◌||◌, true≢false}
use mathlib.Core.List.Memᴰ
use mathlib.Core.List.{List, [], ◌∷◌, map, Memᴰ}
use lib.ListN.{get_or}
use Rattle.lists.specs.Any.{any_of, Some}
use Rattle.lists.proofs.Decides.{Decides, decides_eq, decides_le, decides_not, decides_and, decides_or, decides_as, decides_any}
use Rattle.address.specs.Address.{quad_of}
use Rattle.options.specs.Options.{options_of, are_options_whole, is_source_link_layer, has_source_link_layer}
use Rattle.options.specs.Lifetimes.{is_prefix, is_route, lifetime_of, is_counted, counted, least_of, smallest_of, delay_of, due_after}
use Rattle.options.specs.Facts.{WholeOptions, PrefixOption, RouteOption, HasLifetime, SourceLinkLayerOption, IsLifetime, Counts, SmallestLifetime, DueFrom, DueBy}
use Rattle.options.proofs.Whole.{options_are, flatten_of-whole, options-of_flatten, whole-of_flatten}
use Rattle.options.proofs.Least.{least-among, least-least}

-- options are whole exactly if the bytes are options, one after another, and those are the ones that are read
pub whole-options : (bs : List ℕ) → are_options_whole bs ≡ true → WholeOptions bs (options_of bs)
whole-options bs h = record { options = options_are bs; bytes = flatten_of-whole bs h }

pub options-whole : (bs : List ℕ) (os : List (List ℕ)) → WholeOptions bs os → are_options_whole bs ≡ true
options-whole bs os w = ap are_options_whole (sym w.bytes) ∙ whole-of_flatten os w.options

pub options_are_read : (bs : List ℕ) (os : List (List ℕ)) → WholeOptions bs os → os ≡ options_of bs
options_are_read bs os w = sym (options-of_flatten os w.options) ∙ ap options_of w.bytes

-- of whole options, one is a source link-layer address exactly if that was found
pub decides_source_link_layer : (bs : List ℕ) (os : List (List ℕ)) → WholeOptions bs os → Decides (has_source_link_layer bs) (Some SourceLinkLayerOption os)
decides_source_link_layer bs os w =
    subst (λ (l : List (List ℕ)). Decides (any_of is_source_link_layer l) (Some SourceLinkLayerOption os)) (options_are_read bs os w)
    (decides_any is_source_link_layer SourceLinkLayerOption (λ o. decides_eq (get_or o 0 0) 1) os)

decides_counts : (l : ℕ) → Decides (is_counted l) (Counts l)
decides_counts l = decides_and _ _ (decides_not _ (decides_eq l 0)) (decides_not _ (decides_eq l 0xffff_ffff))

decides_kind : (o : List ℕ) → Decides (is_prefix (get_or o 0 0) (get_or o 1 0) || is_route (get_or o 0 0) (get_or o 1 0)) (PrefixOption o ⊎ RouteOption o)
decides_kind o =
    let kind = get_or o 0 0 in
    let units = get_or o 1 0 in
    let route = decides_and _ _ (decides_and _ _ (decides_eq kind 24) (decides_le 1 units)) (decides_le units 3) in
    decides_or _ _ (decides_and _ _ (decides_eq kind 3) (decides_eq units 4)) (decides_as _ route (λ f. (f.0.0, (f.0.1, f.1))) (λ f. ((f.0, f.1.0), f.1.1)))

-- the lifetime of an option, where it has one; else zero, which does not count
option_has : (o : List ℕ) (l : ℕ) → l ≡ lifetime_of o → Counts l → HasLifetime l o
unfolding lifetime_of
option_has o l e c = go (is_prefix (get_or o 0 0) (get_or o 1 0) || is_route (get_or o 0 0) (get_or o 1 0)) (decides_kind o) e
  where
    go : (t : Bool) → Decides t (PrefixOption o ⊎ RouteOption o) → l ≡ cond t (quad_of (get_or o 4 0) (get_or o 5 0) (get_or o 6 0) (get_or o 7 0)) 0 → HasLifetime l o
    go true d e = (d.holds refl, sym e)
    go false d e = absurd (c.0 e)

has_option : (o : List ℕ) (l : ℕ) → HasLifetime l o → l ≡ lifetime_of o
unfolding lifetime_of
has_option o l f = rw ((decides_kind o).passes f.0) (sym f.1)

-- the lifetimes that count are those of the facts
among-options : (os : List (List ℕ)) (l : ℕ) → Memᴰ l (map lifetime_of os) → Counts l → Some (HasLifetime l) os
among-options [] l m c = absurd (Memᴰ.not-nil m)
among-options (o ∷ os) l m c = go (Memᴰ.cases_cons m) (λ n. among-options os l n c)
  where
    go : (l ≡ lifetime_of o) ⊎ Memᴰ l (map lifetime_of os) → (Memᴰ l (map lifetime_of os) → Some (HasLifetime l) os) → Some (HasLifetime l) (o ∷ os)
    go (inl e) later = (o, Memᴰ.head refl, option_has o l e c)
    go (inr n) later = let s = later n in (s.0, Memᴰ.tail s.1, s.2)

options-among : (os : List (List ℕ)) (l : ℕ) → Some (HasLifetime l) os → Memᴰ l (map lifetime_of os)
options-among [] l s = absurd (Memᴰ.not-nil s.1)
options-among (o ∷ os) l s = go (Memᴰ.cases_cons s.1) (λ n. options-among os l (s.0, n, s.2))
  where
    go : (s.0 ≡ o) ⊎ Memᴰ s.0 os → (Memᴰ s.0 os → Memᴰ l (map lifetime_of os)) → Memᴰ l (lifetime_of o ∷ map lifetime_of os)
    go (inl e) later = Memᴰ.head (has_option s.0 l s.2 ∙ ap lifetime_of e)
    go (inr n) later = Memᴰ.tail (later n)

counted-among : (ls : List ℕ) (l : ℕ) → Memᴰ l (counted ls) → Memᴰ l ls × Counts l
unfolding counted
counted-among [] l m = absurd (Memᴰ.not-nil m)
counted-among (k ∷ ls) l m = go (is_counted k) (decides_counts k) (counted-among ls l) m
  where
    go : (t : Bool) → Decides t (Counts k) → (Memᴰ l (counted ls) → Memᴰ l ls × Counts l) → Memᴰ l (cond t (k ∷ counted ls) (counted ls))
        → Memᴰ l (k ∷ ls) × Counts l
    go true d later m = first (Memᴰ.cases_cons m)
      where
        first : (l ≡ k) ⊎ Memᴰ l (counted ls) → Memᴰ l (k ∷ ls) × Counts l
        first (inl e) = (Memᴰ.head e, rw e (d.holds refl))
        first (inr n) = let f = later n in (Memᴰ.tail f.0, f.1)
    go false d later m = let f = later m in (Memᴰ.tail f.0, f.1)

among-counted : (ls : List ℕ) (l : ℕ) → Memᴰ l ls → Counts l → Memᴰ l (counted ls)
unfolding counted
among-counted [] l m c = absurd (Memᴰ.not-nil m)
among-counted (k ∷ ls) l m c = go (is_counted k) (decides_counts k) (λ n. among-counted ls l n c) (Memᴰ.cases_cons m)
  where
    go : (t : Bool) → Decides t (Counts k) → (Memᴰ l ls → Memᴰ l (counted ls)) → (l ≡ k) ⊎ Memᴰ l ls
        → Memᴰ l (cond t (k ∷ counted ls) (counted ls))
    go true d later (inl e) = Memᴰ.head e
    go true d later (inr n) = Memᴰ.tail (later n)
    go false d later (inl e) = absurd (true≢false (sym (d.passes (rw (← e) c))))
    go false d later (inr n) = later n

module _ (router : ℕ) (os : List (List ℕ)) where
  is-lifetime : (l : ℕ) → Memᴰ l (router ∷ map lifetime_of os) → Counts l → IsLifetime router os l
  is-lifetime l m c = go (Memᴰ.cases_cons m)
    where
      go : (l ≡ router) ⊎ Memᴰ l (map lifetime_of os) → IsLifetime router os l
      go (inl e) = inl (sym e)
      go (inr n) = inr (among-options os l n c)

  lifetime_in : (l : ℕ) → IsLifetime router os l → Counts l → Memᴰ l (counted (router ∷ map lifetime_of os))
  lifetime_in l f c = among-counted (router ∷ map lifetime_of os) l (go f) c
    where
      go : IsLifetime router os l → Memᴰ l (router ∷ map lifetime_of os)
      go (inl e) = Memᴰ.head (sym e)
      go (inr s) = Memᴰ.tail (options-among os l s)

  -- the due time is the one that the lifetimes give
  pub due_by : (now interval : ℕ) → DueBy now interval router os (due_after now interval (smallest_of (counted (router ∷ map lifetime_of os))))
  unfolding DueFrom delay_of
  due_by now interval = go (counted (router ∷ map lifetime_of os)) (counted-among (router ∷ map lifetime_of os)) lifetime_in
    where
      go : (ls : List ℕ) → ((l : ℕ) → Memᴰ l ls → Memᴰ l (router ∷ map lifetime_of os) × Counts l)
          → ((l : ℕ) → IsLifetime router os l → Counts l → Memᴰ l ls)
          → DueBy now interval router os (due_after now interval (smallest_of ls))
      go [] from into = inr (λ k f c. Memᴰ.not-nil (into k f c), refl)
      go (l ∷ ls) from into =
          let least = least_of l ls in
          let m = from least (least-among l ls) in
          inl (least, record { among = is-lifetime least m.0 m.1; counts = m.1; smallest = λ k f c. least-least l ls k (into k f c) }, refl)

-- the due time is the same for lifetimes that are the same as far as they count
module _ (A B : ℕ → Type 0) (to : (l : ℕ) → Counts l → A l → B l) (from : (l : ℕ) → Counts l → B l → A l) where
  smallest-same : (l : ℕ) → SmallestLifetime A l → SmallestLifetime B l
  smallest-same l s = record {
    among = to l s.counts s.among;
    counts = s.counts;
    smallest = λ k f c. s.smallest k (from k c f) c;
  }

  pub due-same : (now interval due : ℕ) → DueFrom now interval A due → DueFrom now interval B due
  unfolding DueFrom
  due-same now interval due =
      ⊎_elim (λ s. inl (s.0, smallest-same s.0 s.1, s.2)) (λ n. inr (λ k f c. n.0 k (from k c f) c, n.1))
