-- `lettering::digits` meets its contract: as many places as the number has digits.
-- Assumes nothing.
use native.Mathlib.Omega.{arith}
use Rattle.lettering.proofs.PlacesLaws.{digits_laid}
use Rattle.lettering.proofs.digits.Goals as goal

pub returns-in-0-to-9 : goal.returns-in-0-to-9
returns-in-0-to-9 c = digits_laid 0 _ (omega arith) (omega arith) _ _ _ _ c.places.ensures.0 c.places.ensures.1

pub returns-in-10-to-99 : goal.returns-in-10-to-99
returns-in-10-to-99 c = digits_laid 1 _ (omega arith) (omega arith) _ _ _ _ c.places-in-10-to-99.ensures.0 c.places-in-10-to-99.ensures.1

pub returns-in-100-to-999 : goal.returns-in-100-to-999
returns-in-100-to-999 c = digits_laid 2 _ (omega arith) (omega arith) _ _ _ _ c.places-in-100-to-999.ensures.0 c.places-in-100-to-999.ensures.1

pub returns-in-1000-to-9999 : goal.returns-in-1000-to-9999
returns-in-1000-to-9999 c = digits_laid 3 _ (omega arith) (omega arith) _ _ _ _ c.places-in-1000-to-9999.ensures.0 c.places-in-1000-to-9999.ensures.1

pub returns-in_default : goal.returns-in_default
returns-in_default c = digits_laid 4 _ (omega arith) (omega arith) _ _ _ _ c.places-in_default.ensures.0 c.places-in_default.ensures.1
