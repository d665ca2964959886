-- What the functions of `string_voice` are proved equal to.
pub mod StringVoice
pub mod OneLoop
