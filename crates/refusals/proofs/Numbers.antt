-- No refusal has the number 0, nor 14, which is sending's own. Assumes nothing.
use mathlib.Core.Path.{◌≡◌, refl, ap}
use Prim.Native.Nat.{ℕ}
use mathlib.Core.Bool.{Bool, false, cond}
use mathlib.Core.List.{List, []}
use lib.Dec.{eqb}
use Rattle.refusals.specs.Given.{refused, read_back}
use Rattle.refusals.specs.Refusals.{number_of}
use Rattle.refusals.specs.declared.Refusal.{Refusal}
use Rattle.refusals.specs.declared.Refusal.TheVariants.{Settings, OuterMalformed, OuterChecksum, OtherProtocol, Piece, NotForUs, OuterSourceForbidden, InnerMalformed, InnerSourceBad, OuterSourceWrong, NoLocator, NextHopNotIsatap, TunnelEndForbidden, OutputShort, ReportMalformed, QuoteNotOurs, SizeUnusable, SizeNotBelow, AdvertisementInvalid, AdvertiserNotListed, NoRouterDue, WrappedTooLong, SolicitationInvalid, AskerNotIsatap, OptionsBad, PieceWaits, NoPlace, PiecesDisagree, PieceUnfit, RecordingMalformed}

neither : (r : Refusal) → (eqb (number_of r) 0 ≡ false) × (eqb (number_of r) 14 ≡ false)
neither Settings = (refl, refl)
neither OuterMalformed = (refl, refl)
neither OuterChecksum = (refl, refl)
neither OtherProtocol = (refl, refl)
neither Piece = (refl, refl)
neither NotForUs = (refl, refl)
neither OuterSourceForbidden = (refl, refl)
neither InnerMalformed = (refl, refl)
neither InnerSourceBad = (refl, refl)
neither OuterSourceWrong = (refl, refl)
neither NoLocator = (refl, refl)
neither NextHopNotIsatap = (refl, refl)
neither TunnelEndForbidden = (refl, refl)
neither OutputShort = (refl, refl)
neither ReportMalformed = (refl, refl)
neither QuoteNotOurs = (refl, refl)
neither SizeUnusable = (refl, refl)
neither SizeNotBelow = (refl, refl)
neither AdvertisementInvalid = (refl, refl)
neither AdvertiserNotListed = (refl, refl)
neither NoRouterDue = (refl, refl)
neither WrappedTooLong = (refl, refl)
neither SolicitationInvalid = (refl, refl)
neither AskerNotIsatap = (refl, refl)
neither OptionsBad = (refl, refl)
neither PieceWaits = (refl, refl)
neither NoPlace = (refl, refl)
neither PiecesDisagree = (refl, refl)
neither PieceUnfit = (refl, refl)
neither RecordingMalformed = (refl, refl)

pub never_zero : (r : Refusal) → eqb (number_of r) 0 ≡ false
never_zero r = (neither r).0

pub never_14 : (r : Refusal) → eqb (number_of r) 14 ≡ false
never_14 r = (neither r).1

-- a refusal is read back without values
pub refused-back : (r : Refusal) (values : List ℕ) → read_back (number_of r) values ≡ refused r
refused-back r values = ap (λ (b : Bool). record { number = number_of r; values = cond b values [] }) (never_zero r)
