-- What the functions of `modal_voice` are proved equal to.
pub mod ModalVoice
pub mod OneLoop
pub mod Tables
