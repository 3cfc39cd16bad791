-- A sender's Too Big answers over the plain record: after each one it fits, until an accepted report of its neighbour lowers the size.
use mathlib.Core.Path.{◌≡◌, refl, ap, ◌∙◌}
use mathlib.Core.Logic.{⊎_elim}
use mathlib.Core.Bool.{Bool, true, false, cond, ◌&&◌, false≢true}
use mathlib.Core.List.{List, [], ◌∷◌}
use Prim.Native.Nat.{ℕ, suc, ◌≤◌, ◌<◌, max}
use native.Mathlib.Nat.{le_trans}
use native.Mathlib.Omega.{arith}
use borrow.Author.Tests.{ltb-true, eqb-true}
use lib.Dec.{ltb, eqb}
use Rattle.paths.specs.Candidate.{is_below}
use Rattle.paths.specs.Kept.{Report}
use Rattle.paths.proofs.Calls.{PathCall, clock, report, send, Answer, too_big, other, plain, size_toward, remembered, latest, answer, history}
use Rattle.paths.specs.Sender.{Event, told, passed, lowered, nothing, AtMostAll, Heeds, too_bigs, reports, Bound}
use Rattle.paths.proofs.Events.{packet_event, event_of, events_of}
use Rattle.paths.proofs.Claim.{Grows}
use Rattle.paths.proofs.Reports.{tested}
use Rattle.paths.proofs.Rise.{size-later, size-others}

and_left : (a b : Bool) → (a && b) ≡ true → a ≡ true
and_left true b h = refl
and_left false b h = h

and_right : (a b : Bool) → (a && b) ≡ true → b ≡ true
and_right true b h = h
and_right false b h = absurd (false≢true h)

-- with e the count begins, or goes on to h
started : (e : Event) (h : List Event) → (Heeds [] (e ∷ h) → too_bigs (e ∷ h) ≤ suc (reports (e ∷ h))) → Bound h → Bound (e ∷ h)
started (told n m) h now later heeds = now heeds
started (passed n) h now later heeds = now heeds
started lowered h now later heeds = later heeds
started nothing h now later heeds = later heeds

module _ (limit : ℕ → ℕ) (grows : Grows limit) where
  -- whoever heeds the sizes ms fits a path of size P
  abbrev Fits : List ℕ → ℕ → Type 0
  Fits ms P = (n : ℕ) → AtMostAll n ms → n ≤ limit P

  -- of what a sender meets that has been named ms, at a path of size P:
  -- one Too Big more than accepted reports, and no more at all where the sender fits
  abbrev Bounded : List ℕ → ℕ → List Event → Type 0
  Bounded ms P h = Heeds ms h → (too_bigs h ≤ suc (reports h)) × (Fits ms P → too_bigs h ≤ reports h)

  module _ (h : List Event) (ms : List ℕ) (P : ℕ) where
    -- the path only rose
    raised : (Q : ℕ) → P ≤ Q → Bounded ms Q h → Bounded ms P h
    raised Q l b heeds = ((b heeds).0, λ f. (b heeds).1 (λ n a. le_trans (f n a) (grows P Q l)))

    -- an accepted report, of the sender's neighbour or of another, after which the path is of size Q: by another's it only rose
    reported : (own : Bool) (Q : ℕ) → (own ≡ false → P ≤ Q) → Bounded ms Q h → Bounded ms P (cond own lowered nothing ∷ h)
    reported true Q l b heeds = let i = (b heeds).0 in (omega arith, λ f. i)
    reported false Q l b heeds = raised Q (l refl) b heeds

    -- a packet, of the sender's own or not, too big for a limit M or not: once told M, the sender fits
    sent : (own big : Bool) (n M : ℕ) → (own ≡ true → M ≡ limit P) → (big ≡ true → M < n) → ((ns : List ℕ) → Bounded ns P h)
        → Bounded ms P (cond own (packet_event n (cond big (too_big M) other)) nothing ∷ h)
    sent true true n M same over b heeds =
        let m = same refl in
        let o = over refl in
        let i = (b (M ∷ ms) heeds.1).1 (λ k a. omega (arith, a.0)) in
        (omega arith, λ f. omega (arith, f n heeds.0))
    sent true false n M same over b heeds = b ms heeds.1
    sent false big n M same over b heeds = b ms heeds

  module _ (links : ℕ → ℕ) where
    -- a sending leaves the record as it was
    unsent : (es : List Report) (now m : ℕ) (b : Bool) → remembered plain es now (cond b (too_big m) other) ≡ es
    unsent es now m true = refl
    unsent es now m false = refl

    -- the sender's service, and its neighbour
    module _ (j v : ℕ) where
      abbrev size : List Report → ℕ → ℕ
      size es now = size_toward plain (links j) es now v

      -- what the sender meets from then on
      abbrev met : List Report → ℕ → List PathCall → List Event
      met es now xs = events_of j v (history plain limit links es now xs)

      bounded : (xs : List PathCall) (es : List Report) (now : ℕ) (ms : List ℕ) → Bounded ms (size es now) (met es now xs)
      bounded [] es now ms = λ heeds. (omega arith, λ f. omega arith)
      bounded (clock t ∷ xs) es now ms =
          raised (met es (max now t) xs) ms (size es now) (size es (max now t)) (size-later (links j) es v now (max now t) (omega arith))
          (bounded xs es (max now t) ms)
      bounded (report i w c ∷ xs) es now ms =
          let e : Report = record { neighbour = w; size = c; time = now } in
          ⊎_elim
          (λ h. rw h (reported (met (e ∷ es) now xs) ms (size es now) (eqb w v) (size (e ∷ es) now) (size-others (links j) es v now e)
          (bounded xs (e ∷ es) now ms)))
          (λ h. rw h (bounded xs es now ms))
          (tested (is_below c (size_toward plain (links i) es now w)))
      bounded (send mine i w n fits ∷ xs) es now ms =
          let M : ℕ = limit (size_toward plain (links i) es now w) in
          rw (unsent es now M (ltb M n && fits))
          (sent (met es now xs) ms (size es now) (mine && eqb i j && eqb w v) (ltb M n && fits) n M
          (λ own.
          let through = eqb-true i j (and_right mine (eqb i j) (and_left (mine && eqb i j) (eqb w v) own)) in
          let toward = eqb-true w v (and_right (mine && eqb i j) (eqb w v) own) in
          ap (λ (k : ℕ). limit (size_toward plain (links k) es now w)) through ∙ ap (λ (u : ℕ). limit (size_toward plain (links j) es now u)) toward)
          (λ big. ltb-true M n (and_left (ltb M n) fits big))
          (bounded xs es now))

      pub from_first_lem : (xs : List PathCall) (es : List Report) (now : ℕ) → Bound (met es now xs)
      from_first_lem [] es now = λ heeds. omega arith
      from_first_lem (x ∷ xs) es now =
          let a : Answer = answer plain limit links es now x in
          started (event_of j v x a) (met (remembered plain es now a) (latest now x) xs) (λ heeds. (bounded (x ∷ xs) es now [] heeds).0)
          (from_first_lem xs (remembered plain es now a) (latest now x))
