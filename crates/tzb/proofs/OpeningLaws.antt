-- Laws of specs/Opening, as proofs cite them. Nothing here need be believed.
-- Assumes nothing.
use Prim.Native.Nat.{ℕ, ◌%◌}
use native.Mathlib.Nat.{div-mul-le_self}
use native.Mathlib.Omega.{arith}
use mathlib.Core.Path.{◌≡◌, sym, ◌∙◌}
use mathlib.Core.List.{List}
use Rattle.answer.specs.declared.Refusal.{Refusal}
use Rattle.answer.proofs.CheckLaws.{fine_one, fine_rest, eq_same, ne_same}
use Rattle.answer.specs.Answers.{ok, refused, ◌before◌, Check, fine}
use Rattle.opened.specs.declared.Section.{Section}
use Rattle.reader_opened.specs.declared.Sections.{Sections}
use Rattle.opened.specs.declared.Grid.{Grid}
use Rattle.opened.specs.declared.Opened.{Opened}
use Rattle.reader_opened.specs.Opened.{sections_of, grid_of, directory_of, opened_of, Tabled}
use Rattle.reader_names.specs.Names.{names_check}
use Rattle.reader_grid.specs.Grid.{grid_check}
use Rattle.reader_dirs.specs.Dirs.{Lies, Room}
use Rattle.opened.specs.Within.{Within}
use Rattle.tzb.specs.Opening.{table_check, names_in, grid_in, contents_check, open_of}
use Rattle.reader_head.proofs.HeadLaws.{headed}
use Rattle.reader_opened.proofs.OpenedLaws.{within}
use Rattle.tzb.specs.Steps.{Placed}

pub tabled : (s : List ℕ) → table_check s ≡ fine → Tabled s
unfolding table_check
tabled s e = record { head = headed s (fine_one _ _ e); table = fine_one _ _ (fine_rest _ _ e) }

pub placed : (s : List ℕ) → Tabled s → Placed s (sections_of s)
unfolding sections_of
placed s t =
    record {
      names = within s t 1;
      grid = within s t 8;
      groups = within s t 6;
      chunks = within s t 7;
      small = omega (arith, t.head.short);
    }

-- so do the records of its directories
pub lies : (s : List ℕ) (p : Section) (w : ℕ) → Within s p → Lies s (directory_of p w) w
unfolding directory_of
lies s p w f = record { fits = omega (arith, div-mul-le_self p.len w, f.fits) }

pub room : (s : List ℕ) (p : Sections) (g : Grid) → Placed s p → Room s (opened_of p g)
unfolding opened_of
room s p g f = record { chunks = lies s p.chunkdir 24 f.chunks; groups = lies s p.groupdir 44 f.groups }

module _ (s : List ℕ) (p : Sections) (g : Grid) where
  pub grid_absent : p.flags % 2 ≡ 0 → fine ≡ grid_in s p g
  unfolding grid_in
  grid_absent e = rw (eq_same (p.flags % 2) 0 e)

  pub grid_present : (n : ℕ) (x : Check) → (p.flags % 2 ≡ 0 → ⊥) → n ≡ p.zones → x ≡ grid_check s p.gridpart g n → x ≡ grid_in s p g
  unfolding grid_in
  grid_present n x h en e = rw (ne_same (p.flags % 2) 0 h, ← en) e

pub names_present : (s : List ℕ) (p : Sections) (at len n : ℕ) (x : Check) → at ≡ p.names.off → len ≡ p.names.len → n ≡ p.zones → x ≡ names_check s at len n → x ≡ names_in s p
unfolding names_in
names_present s p at len n x ea el en e = rw (← ea, ← el, ← en) e

module _ (s : List ℕ) where
  pub open_barred : (k : Refusal) → table_check s ≡ refused k → refused k ≡ open_of s
  unfolding open_of
  open_barred k e = rw e

  module _ (p : Sections) (g : Grid) (o : Opened) (t : table_check s ≡ fine) (ep : p ≡ sections_of s) (eg : g ≡ grid_of s p.gridpart) (eo : o ≡ opened_of p g) where
    open_on : open_of s ≡ (contents_check s p g o before ok o)
    unfolding open_of
    open_on = rw (t, eo, eg, ep)

    pub open_refused : (k : Refusal) → contents_check s p g o ≡ refused k → refused k ≡ open_of s
    open_refused k e = sym (open_on ∙ rw e)

    pub open_done : contents_check s p g o ≡ fine → ok o ≡ open_of s
    open_done e = sym (open_on ∙ rw e)
