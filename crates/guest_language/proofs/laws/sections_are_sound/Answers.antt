use Rattle.guest_language.proofs.SoundSections.{sound_sections}
use Rattle.guest_language.proofs.laws.sections_are_sound.Goals as goal

pub returns : goal.returns
returns c = sound_sections
