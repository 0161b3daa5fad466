-- What is known of a file whose names were found fine: every zone number below the count has a name, which is a text of at least one byte, UTF-8, and with no zero byte.
-- Assumes nothing.
use Prim.Native.Nat.{ℕ, zero, suc, ◌+◌, ◌<◌}
use native.Mathlib.Omega.{arith}
use mathlib.Core.Path.{◌≡◌, refl, sym, ap, ◌∙◌}
use mathlib.Core.Bool.{Bool, true, false, true≢false}
use mathlib.Core.List.{List, []}
use lib.ListN.{length, get_or}
use Rattle.utf8.specs.Rfc3629.{utf8}
use Rattle.utf8.specs.Grammar.{Octets}
use Rattle.utf8.proofs.Same.{utf8_is_rfc3629}
use Rattle.answer.specs.Answers.{ok, fine}
use Rattle.answer.specs.Checks.{seek, pick}
use Rattle.answer.proofs.CheckLaws.{fine_one, fine_rest, fine_claim, same_eq, eq_same}
use Rattle.reader_head.specs.Head.{is_zero}
use Rattle.opened.specs.declared.Opened.{Opened}
use Rattle.reader_names.specs.Names.{names_check, text_check}
use Rattle.reader_named.specs.Asked.{name_at, name_or, or_empty, refusal_of}
use Rattle.reader_named.proofs.Named.{named}
use Rattle.opened.specs.Within.{Within}

-- a zone has a name
pub record NameGiven (o : Opened) (s : List ℕ) (zone : ℕ) : Type 0 where
  pub name : List ℕ
  -- the question is answered by it, the part handed back is it, and the second question gives 0
  pub given : ok name ≡ name_at o s zone
  pub handed : name ≡ name_or o s zone
  pub number : 0 ≡ refusal_of (name_at o s zone)
  -- not empty; UTF-8, which is what RFC 3629's grammar generates; no zero byte
  pub some : 0 < length name
  pub text : utf8 [] name ≡ true
  pub octets : Octets name
  pub no_zero : (i : ℕ) → i < length name → get_or name i 0 ≡ 0 → ⊥

-- a search that finds nothing: not here, and not behind
not_here : (b : Bool) (i n rest : ℕ) → pick b i rest ≡ i + suc n → (b ≡ false) × (rest ≡ i + 1 + n)
not_here true i n rest e = absurd (omega arith)
not_here false i n rest e = (refl, omega arith)

none_from : (p : ℕ → Bool) (n i j : ℕ) → seek p n i ≡ i + n → j < n → p (i + j) ≡ false
unfolding seek
none_from p zero i j e h = absurd (omega arith)
none_from p (suc n) i zero e h = let q : i + 0 ≡ i = omega arith in rw q (not_here (p i) i n (seek p n (i + 1)) e).0
none_from p (suc n) i (suc j) e h =
    let q : i + suc j ≡ i + 1 + j = omega arith in
    rw q (none_from p n (i + 1) j (not_here (p i) i n (seek p n (i + 1)) e).1 (omega arith))

pub seek_none : (p : ℕ → Bool) (n j : ℕ) → seek p n 0 ≡ n → j < n → p j ≡ false
seek_none p n j e h = let q : 0 + j ≡ j = omega arith in rw q at (none_from p n 0 j (omega (arith, e)) h)

module _ (name : List ℕ) (passes : text_check name ≡ fine) where
  fine_utf8 : utf8 [] name ≡ true
  unfolding text_check
  fine_utf8 = fine_claim _ _ (fine_one _ _ passes)

  fine_octets : Octets name
  fine_octets = (utf8_is_rfc3629 name).0 (rw fine_utf8 tt)

  fine_zero : (i : ℕ) → i < length name → get_or name i 0 ≡ 0 → ⊥
  unfolding text_check is_zero
  fine_zero i h z =
      let nowhere = same_eq _ _ (fine_claim _ _ (fine_one _ _ (fine_rest _ _ passes))) in
      true≢false (sym (eq_same (get_or name i 0) 0 z) ∙ seek_none (is_zero name) (length name) i nowhere h)

pub name_given : (o : Opened) (s : List ℕ) → Within s o.names → names_check s o.names.off o.names.len o.zones.count ≡ fine
    → (zone : ℕ) → zone < o.zones.count → NameGiven o s zone
unfolding name_or refusal_of
name_given o s room passes zone h =
    let n = named o s room passes zone h in
    record {
      name = _;
      given = sym n.given;
      handed = ap or_empty (sym n.given);
      number = ap refusal_of (sym n.given);
      some = n.some;
      text = fine_utf8 _ n.judged;
      octets = fine_octets _ n.judged;
      no_zero = fine_zero _ n.judged;
    }
