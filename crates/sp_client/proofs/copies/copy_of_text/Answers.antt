use Rattle.std.proofs.Common.{List, ℕ, sym, subst}
use Rattle.sp_frames.specs.Grammar.{BodyFits}
use Rattle.sp_frames.specs.declared.frame.Body.TheVariants.{GotText}
use Rattle.sp_client.proofs.Fit.{text_fits}
use Rattle.sp_client.proofs.copies.copy_of_text.Goals as goal

pub returns-in-Ok-clause-fits : goal.returns-in-Ok-clause-fits
returns-in-Ok-clause-fits c =
    subst (λ (bytes : List ℕ). BodyFits (GotText c.args.index 0 bytes)) (sym c.bytes_of.ensures.value)
    (text_fits c.args.index c.args.addr c.args.most _ c.requires.index c.in-Ok.ensures.fits c.requires.most c.bytes_of.ensures.fits)
