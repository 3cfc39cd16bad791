-- The numbers given back (R4). 14, Too Big, stands in the answer of sending.
use Rattle.std.specs.Prelude.{ℕ, ◌≡◌, ◌⊎◌, Bool, cond, List, [], ◌∷◌, Result, Ok, Err}
use Rattle.refusals.specs.declared.Refusal.{Refusal}
use Rattle.refusals.specs.declared.Refusal.TheVariants.{Settings, OuterMalformed, OuterChecksum, OtherProtocol, Piece, NotForUs, OuterSourceForbidden, InnerMalformed, InnerSourceBad, OuterSourceWrong, NoLocator, NextHopNotIsatap, TunnelEndForbidden, OutputShort, ReportMalformed, QuoteNotOurs, SizeUnusable, SizeNotBelow, AdvertisementInvalid, AdvertiserNotListed, NoRouterDue, WrappedTooLong, SolicitationInvalid, AskerNotIsatap, OptionsBad, PieceWaits, NoPlace, PiecesDisagree, PieceUnfit, RecordingMalformed}

-- the number of each row of the table
abbrev pub number_of : Refusal → ℕ
number_of Settings = 1
number_of OuterMalformed = 2
number_of OuterChecksum = 3
number_of OtherProtocol = 4
number_of Piece = 5
number_of NotForUs = 6
number_of OuterSourceForbidden = 7
number_of InnerMalformed = 8
number_of InnerSourceBad = 9
number_of OuterSourceWrong = 10
number_of NoLocator = 11
number_of NextHopNotIsatap = 12
number_of TunnelEndForbidden = 13
number_of OutputShort = 15
number_of ReportMalformed = 16
number_of QuoteNotOurs = 17
number_of SizeUnusable = 18
number_of SizeNotBelow = 19
number_of AdvertisementInvalid = 20
number_of AdvertiserNotListed = 21
number_of NoRouterDue = 22
number_of WrappedTooLong = 23
number_of SolicitationInvalid = 24
number_of AskerNotIsatap = 25
number_of OptionsBad = 26
number_of PieceWaits = 27
number_of NoPlace = 28
number_of PiecesDisagree = 29
number_of PieceUnfit = 30
number_of RecordingMalformed = 31

-- where several apply, the first in the call's order is given (R1.13)
abbrev pub first_of : List (Bool × Refusal) → Result Unit Refusal
first_of [] = Ok tt
first_of (t ∷ ts) = cond t.0 (Err t.1) (first_of ts)

module _ {A : Type 0} where
  -- the refusal, where a row of tests has one, in the form of the call's answer; else what follows
  abbrev pub stop_or : (Refusal → A) → Result Unit Refusal → A → A
  stop_or refuse (Ok passed) follows = follows
  stop_or refuse (Err refusal) follows = refuse refusal

  -- the answer is the refusal of the first fact that holds; where none holds, it is what follows
  abbrev pub AnswersFirst : (Refusal → A) → List (Type 0 × Refusal) → A → A → Type 0
  AnswersFirst refuse [] follows answer = answer ≡ follows
  AnswersFirst refuse (t ∷ ts) follows answer = (t.0 × (answer ≡ refuse t.1)) ⊎ ((t.0 → ⊥) × AnswersFirst refuse ts follows answer)
