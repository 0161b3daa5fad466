-- `sweep` meets its contract: two products of coordinates, and their difference.
-- Assumes nothing.
use mathlib.Core.Path.{ap₂, ◌∙◌}
use lib.IntN.{ℤ, ◌*ℤ◌}
use mir.Syntax.{w32, w64}
use mir.ValLaws.{to_z-of_z}
use Rattle.basics.specs.Signed.{back}
use Rattle.reader_outline.proofs.Area.{size_x, size_y, sweep_is, sweep_near}
use Rattle.reader_outline.proofs.sweep.Goals as goal

pub product-requires : goal.product-requires
product-requires c =
    (size_x c.args.a c.requires.a_value _ (back w32 c.args.a.x c.struct_told-1.given.0.1), size_y c.args.b c.requires.b_value _ (back w32 c.args.b.y c.struct_told-2-1.given.1.0.1))

pub product-requires-2 : goal.product-requires-2
product-requires-2 c =
    (size_x c.args.b c.requires.b_value _ (back w32 c.args.b.x c.struct_told-3-1.given.0.1), size_y c.args.a c.requires.a_value _ (back w32 c.args.a.y c.struct_told-4-1.given.1.0.1))

pub overflow_sub-result : goal.overflow_sub-result
overflow_sub-result c =
    let a = c.args.a in
    let b = c.args.b in
    sweep_near a b c.requires.a_value c.requires.b_value _ _
    (back w64 _ c.product.type_inv ∙ c.product.ensures ∙ ap₂ (λ (x y : ℤ). x *ℤ y) (back w32 a.x c.struct_told-1.given.0.1) (back w32 b.y c.struct_told-2-1.given.1.0.1))
    (back w64 _ c.product-2.type_inv ∙ c.product-2.ensures ∙ ap₂ (λ (x y : ℤ). x *ℤ y) (back w32 b.x c.struct_told-3-1.given.0.1) (back w32 a.y c.struct_told-4-1.given.1.0.1))

pub returns : goal.returns
returns c =
    let a = c.args.a in
    let b = c.args.b in
    let u = back w64 _ c.product.type_inv ∙ c.product.ensures ∙ ap₂ (λ (x y : ℤ). x *ℤ y) (back w32 a.x c.struct_told-1.given.0.1) (back w32 b.y c.struct_told-2-1.given.1.0.1) in
    let v = back w64 _ c.product-2.type_inv ∙ c.product-2.ensures ∙ ap₂ (λ (x y : ℤ). x *ℤ y) (back w32 b.x c.struct_told-3-1.given.0.1) (back w32 a.y c.struct_told-4-1.given.1.0.1) in
    to_z-of_z w64 _ (sweep_near a b c.requires.a_value c.requires.b_value _ _ u v) ∙ sweep_is a b c.requires.a_value c.requires.b_value _ _ u v
